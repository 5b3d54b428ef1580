-- The one-link question of a form that is accepted: at most one circuit at the place uses the link, and the answer is its number, or none
-- where no circuit there uses it. Assumes nothing.
use Prim.Native.Nat.{ℕ, ◌≤◌, ◌<◌}
use mathlib.Core.Path.{◌≡◌, ◌∙◌}
use mathlib.Core.Bool.{true, false}
use mathlib.Core.List.{List}
use Rattle.basis.specs.Choice.{bit}
use Rattle.basis.specs.Count.{weigh, All}
use Rattle.lightpath.specs.Place.{side_of, place_of}
use Rattle.lightpath.specs.Circuit.{uses}
use Rattle.lightpath.specs.declared.Circuit.{Circuit}
use Rattle.lightpath.specs.declared.Direction.{Direction}
use Rattle.slots.specs.Slot.{held}
use Rattle.channels.specs.Channels.{at}
use Rattle.ports.specs.Ports.{wavelengths}
use Rattle.refusals.specs.declared.Refusal.{Refusal}
use Rattle.ring.specs.declared.RingTable.{RingTable}
use Rattle.ring.specs.declared.Answered.{Answered}
use Rattle.form.specs.Reading.{read_of}
use Rattle.form.proofs.Laws.{read_meets, accepted_meets}
use Rattle.link_question.specs.Link.{no_circuit, refusal_of, link_of}
use Rattle.monitor.specs.Question.{ring_link}
use Rattle.link_question.proofs.Runs.{one_runs, answer_runs, answer_none}
use Rattle.std.specs.Prelude.{Ok, Err}

-- the answer, from what was read
module _ (form : List ℕ) (a : Answered) (e : a ≡ read_of form) where
  -- where a form is accepted, it is the table's
  pub accepted_link : (l w d r : ℕ) → a.verdict ≡ Ok tt → r ≡ link_of a.table l w d → r ≡ ring_link form l w d
  unfolding ring_link
  accepted_link l w d r g h = rw (← e, g) h

  -- that of any other is the form's own refusal
  pub form_refused : (l w d : ℕ) (x : Refusal) (r : ℕ) → a.verdict ≡ Err x → r ≡ refusal_of x → r ≡ ring_link form l w d
  unfolding ring_link
  form_refused l w d x r g h = rw (← e, g) h

pub ruleset accepting = (accepted_meets, accepted_link, form_refused)

-- which circuit it is, of those at the place of wavelength w in direction d
module _ (form : List ℕ) (accepted : (read_of form).verdict ≡ Ok tt) (l w : ℕ) (d : Direction) (low : 1 ≤ l)
    (high : l ≤ (read_of form).table.nodes) (below : w < wavelengths (read_of form).table.ports) where
  abbrev t : RingTable
  t = (read_of form).table

  abbrev there : List Circuit
  there = held (at t.channels (place_of w d))

  -- it is answered as that of the table
  same : ring_link form l w (side_of d) ≡ link_of t l w (side_of d)
  unfolding ring_link
  same = rw accepted

  -- Law: on the ring of a form that is accepted at most one circuit of a place uses a link
  pub form_one : weigh (λ c. bit (uses t.nodes d c l)) there ≤ 1
  form_one = one_runs t (read_meets form accepted) l w d low high

  -- 01: of a form that is accepted, the answer is the number of the circuit that uses the link
  pub form_runs : All (λ c. uses t.nodes d c l ≡ true → ring_link form l w (side_of d) ≡ c.number) there
  form_runs = rw same (answer_runs t (read_meets form accepted) l w d low high below)

  -- 01: of a form that is accepted, the answer is none where no circuit of the place uses the link
  pub form_none : All (λ c. uses t.nodes d c l ≡ false) there → ring_link form l w (side_of d) ≡ no_circuit
  form_none h = same ∙ answer_none t (read_meets form accepted) l w d low high below h
