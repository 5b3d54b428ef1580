-- The answers of making, opening and closing in document 01's numbers and values, for every input. Assumes nothing.
use Prim.Native.Nat.{ℕ}
use mathlib.Core.Path.{◌≡◌, refl}
use mathlib.Core.Bool.{Bool, true, false, ◌&&◌, ◌||◌, not}
use mathlib.Core.List.{List, [], ◌∷◌}
use lib.Dec.{eqb, leb}
use lib.ListN.{length}
use Rattle.basis.specs.Count.{total}
use Rattle.basis.proofs.Bools.{not_leb}
use Rattle.lightpath.specs.declared.Circuit.{Circuit}
use Rattle.refusals.specs.Refusal.{◌if◌}
use Rattle.refusals.specs.declared.Refusal.TheVariants.{BrokenRule}
use Rattle.refusals.specs.Answer.{verdict_answer, answer_by}
use Rattle.refusals.proofs.Reasons.{in_numbers_lem}
use Rattle.ring.specs.Table.{RingTable, meets_rules}
use Rattle.ring.specs.Making.{Answered, made_by, make_of}
use Rattle.causes.specs.Causes.{make_causes}
use Rattle.ring.specs.Closing.{close_causes, closed_by, close_of}
use Rattle.ring.specs.Opening.{open_causes, decided_by, decide_of}
use Rattle.ring.specs.Answer.{opening_answer}
use Rattle.ring.specs.Numbers.{make_reasons, close_reasons, open_reasons, open_values}
use Rattle.ring.proofs.Causes.{agree}

-- a number outside two bounds, or another that is not it
outside : (a b c : Bool) → not (a && b && c) ≡ (not a || not b || not c)
outside true true c = refl
outside true false c = refl
outside false b c = refl

-- making: 1, 2, 3
make_numbers : (N : ℕ) (ks : List ℕ) → verdict_answer (make_of N ks).verdict ≡ answer_by (make_reasons N ks) []
unfolding make_of
make_numbers N ks =
    in_numbers_lem (λ v. verdict_answer (made_by N ks v).verdict) [] refl (λ r. refl) (make_causes N ks) (make_reasons N ks) (
      rw (← not_leb 3 N, ← not_leb N 64) (outside (leb 3 N) (leb N 64) (eqb (length ks) N)),
      refl,
      (refl, refl, (not_leb (total ks) 192, refl, tt)),
    )

-- closing: 22, 15
close_numbers : (t : RingTable) (n : ℕ) → verdict_answer (close_of t n).verdict ≡ answer_by (close_reasons t n) []
unfolding close_of
close_numbers t n =
    in_numbers_lem (λ v. verdict_answer (closed_by t n v).verdict) [] refl (λ r. refl) (close_causes t n) (close_reasons t n)
    (refl, refl, (refl, refl, tt))

-- opening: 22, 20, 10, 11, 12, 13, 14
pub open_numbers : (t : RingTable) (c : Circuit) (n : ℕ)
    → opening_answer (decide_of t c n).opened.answer ≡ answer_by (open_reasons t c n) (open_values t c)
unfolding decide_of
open_numbers t c n =
    in_numbers_lem (λ v. opening_answer (decided_by t c v).opened.answer) (open_values t c) refl (λ r. refl)
    ((BrokenRule if not (meets_rules t)) ∷ open_causes t c n) (open_reasons t c n) (refl, refl, agree t c n)

-- what is as defined has these numbers
pub makes : (N : ℕ) (ks : List ℕ) (o : Answered) → o ≡ make_of N ks → (o ≡ make_of N ks) × (verdict_answer o.verdict ≡ answer_by (make_reasons N ks) [])
makes N ks o e = (e, rw e (make_numbers N ks))

pub closes : (t : RingTable) (n : ℕ) (o : Answered) → o ≡ close_of t n → (o ≡ close_of t n) × (verdict_answer o.verdict ≡ answer_by (close_reasons t n) [])
closes t n o e = (e, rw e (close_numbers t n))
