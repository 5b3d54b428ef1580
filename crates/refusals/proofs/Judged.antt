-- A verdict by causes: from the tests that the code made, and what it is that none holds. Assumes nothing.
use mathlib.Core.Path.{◌≡◌, refl}
use mathlib.Core.Bool.{Bool, true, false}
use mathlib.Core.List.{List, [], ◌∷◌, ◌++◌}
use borrow.Author.Tests.{lt-ltb, le-ltb, eq-eqb, ne_eqb}
use Rattle.basis.specs.Choice.{pick}
use Rattle.basis.specs.Count.{All}
use Rattle.basis.proofs.Branch.{pick_true, pick_false, said, not_said}
use Rattle.refusals.specs.Refusal.{Refusal, Cause, judged}
use Rattle.std.specs.Prelude.{Ok, Err}

-- for `search verdict`: a verdict from the tests that the code made
pub ruleset verdict = (pick_true, pick_false, said, not_said, lt-ltb, le-ltb, eq-eqb, ne_eqb)

-- a request that is granted is granted by the later causes
pub granted_rest : (x : Cause) (xs : List Cause) → judged (x ∷ xs) ≡ Ok tt → judged xs ≡ Ok tt
granted_rest x xs e = go x.holds e
  where
    go : (o : Bool) → pick o (Err x.refusal) (judged xs) ≡ Ok tt → judged xs ≡ Ok tt
    go true e = cc
    go false e = e

-- and by each cause
pub none_holds : (l : List Cause) → judged l ≡ Ok tt → All (λ x. x.holds ≡ false) l
none_holds [] e = tt
none_holds (x ∷ xs) e = (go x.holds e, none_holds xs (granted_rest x xs e))
  where
    go : (o : Bool) → pick o (Err x.refusal) (judged xs) ≡ Ok tt → o ≡ false
    go true e = cc
    go false e = refl

-- causes that none of a list holds leave those after them to judge
pub judged_past : (xs ys : List Cause) → judged xs ≡ Ok tt → judged (xs ++ ys) ≡ judged ys
judged_past [] ys e = refl
judged_past (x ∷ xs) ys e = go x.holds e (λ k. judged_past xs ys k)
  where
    go : (o : Bool) → pick o (Err x.refusal) (judged xs) ≡ Ok tt → (judged xs ≡ Ok tt → judged (xs ++ ys) ≡ judged ys)
        → pick o (Err x.refusal) (judged (xs ++ ys)) ≡ judged ys
    go true e rest = cc
    go false e rest = rest e

-- and one that holds is named, whatever comes after
pub judged_stop : (xs ys : List Cause) (r : Refusal) → judged xs ≡ Err r → judged (xs ++ ys) ≡ Err r
judged_stop [] ys r e = cc
judged_stop (x ∷ xs) ys r e = go x.holds e (λ k. judged_stop xs ys r k)
  where
    go : (o : Bool) → pick o (Err x.refusal) (judged xs) ≡ Err r → (judged xs ≡ Err r → judged (xs ++ ys) ≡ Err r)
        → pick o (Err x.refusal) (judged (xs ++ ys)) ≡ Err r
    go true e rest = e
    go false e rest = rest e
