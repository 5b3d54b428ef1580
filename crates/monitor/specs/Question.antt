-- 01, "Load and link": the one-link question takes a saved form. It is refused for the form's own causes, then for those of the link, the
-- wavelength and the direction. Assumes nothing. What `ring_link` promises.
use Rattle.std.specs.Prelude.{ℕ, List, Ok, Err}
use Rattle.ring.specs.declared.RingTable.{RingTable}
use Rattle.form.specs.Reading.{read_of}
use Rattle.link_question.specs.Link.{refusal_of, link_of}
use Rattle.refusals.specs.Refusal.{Verdict}

-- the question of the table that was read, or the form's own refusal
abbrev pub asked_by : RingTable → ℕ → ℕ → ℕ → Verdict → ℕ
asked_by t l w d (Ok _) = link_of t l w d
asked_by t l w d (Err r) = refusal_of r

unfoldable pub ring_link : List ℕ → ℕ → ℕ → ℕ → ℕ
ring_link form l w d = asked_by (read_of form).table l w d (read_of form).verdict
