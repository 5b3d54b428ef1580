-- 01, "Saved form": reading before document 02's request E2, when a field map had no bits for accounts. Assumes nothing.
-- What the law that forms read before remain good means by "before" and by "good".
use Rattle.std.specs.Prelude.{ℕ, ◌≡◌, Bool, ◌&&◌, ◌||◌, not, List, ltb}
use Rattle.basis.specs.Count.{All}
use Rattle.lit_words.specs.Lit.{bit_of}
use Rattle.channels.specs.Channels.{Channels, circuits}
use Rattle.ring.specs.Table.{meets_rules}
use Rattle.ring.specs.declared.Answered.{Answered}
use Rattle.form.specs.Form.{form_of}
use Rattle.form.specs.Reading.{Tests, unlit_above, read_by, answered_by, read_of}

-- bits 3 to 7 were zero, and bit 2 didn't stand without bit 1
abbrev pub map_held_before_e2 : ℕ → Bool
map_held_before_e2 m = ltb m 8 && (bit_of m 1 || not (bit_of m 2))

-- what a form was tested for
abbrev pub tests_before_e2 : Tests
tests_before_e2 = record { map = unlit_above; fields = map_held_before_e2; table = meets_rules }

-- how a form was read
abbrev pub read_before_e2 : List ℕ → Answered
read_before_e2 s = answered_by (read_by tests_before_e2 s)

-- every circuit of a table has account 0
abbrev pub NoAccounts : Channels → Type 0
NoAccounts t = All (λ c. c.account ≡ 0) (circuits t)

-- a form that was read before remains good: it is read to the same circuits, with account 0, and writes back to the very same bytes
pub record RemainsGood (s : List ℕ) : Type 0 where
  pub same : read_of s ≡ read_before_e2 s
  pub none : NoAccounts (read_of s).table.channels
  pub back : form_of (read_of s).table ≡ s
