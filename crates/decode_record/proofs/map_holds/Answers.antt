-- `decode_record::map_holds` meets its contract. Assumes nothing.
use Prim.Native.Nat.{ℕ, ◌<◌}
use mathlib.Core.Path.{◌≡◌, sym, ◌∙◌}
use mathlib.Core.Bool.{Bool, false, ◌||◌, not}
use borrow.Author.Rules.{rules}
use borrow.Author.Tests.{lt-ltb}
use Rattle.basis.proofs.Branch.{or_stop, or_next, branch}
use Rattle.lit_words.specs.Lit.{bit_of}
use Rattle.form.specs.Reading.{map_holds}
use Rattle.decode_record.proofs.map_holds.Goals as goal
use Rattle.decode_record.proofs.map_holds.Goals.{then-stands-2, else-stands-2}

-- where bit 1 does not stand
without_second : (m : ℕ) (r : Bool) → m < 32 → bit_of m 1 ≡ false → r ≡ (bit_of m 2 || bit_of m 4) → not r ≡ map_holds m
unfolding map_holds
without_second m r h a e = rw (lt-ltb m 32 h, a, e)

pub returns-then-stands : goal.returns-then-stands
unfolding map_holds
returns-then-stands c = search (rules, branch)

pub returns-after-stands-2 : goal.returns-after-stands-2
returns-after-stands-2 c =
    let one : bit_of c.args.map 1 ≡ false = sym c.stands.ensures ∙ c.if-stands.false in
    elim c.if-stands-2.branch [
      | then-stands-2 w ↦ without_second _ _ c.if-map-lt32.true one (or_stop _ _ _ (sym c.stands-else-stands.ensures ∙ w.if-stands-2.true) (w.result-is ∙ w.if-stands-2.true))
      | else-stands-2 w ↦ without_second _ _ c.if-map-lt32.true one (or_next _ _ _ (sym c.stands-else-stands.ensures ∙ w.if-stands-2.false) (w.result-is ∙ w.stands-else-stands-2.ensures))
    ]

pub returns-else-map-lt32 : goal.returns-else-map-lt32
unfolding map_holds
returns-else-map-lt32 c = search (rules, branch)
