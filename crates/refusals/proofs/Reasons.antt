-- Reasons that are numbered agree with the causes of a refusal: then a call that goes by the causes answers by the reasons. Assumes nothing.
use Prim.Native.Nat.{ℕ}
use mathlib.Core.Path.{◌≡◌, refl, sym, ap, ◌∙◌}
use mathlib.Core.Bool.{Bool, true, false, true≢false}
use mathlib.Core.List.{List, [], ◌∷◌}
use Rattle.basis.specs.Choice.{pick}
use Rattle.basis.proofs.Bools.{or_false}
use Rattle.refusals.specs.Refusal.{Refusal, Verdict, number_of, Cause, judged}
use Rattle.refusals.specs.Answer.{Answer, refusal, done, Reason, some_given, first_number, answer_by}
use Rattle.std.specs.Prelude.{Ok, Err}

-- one by one a cause holds where its reason is given, and has its number
abbrev pub Agree : List Cause → List Reason → Type 0
Agree [] [] = Unit {0}
Agree [] (y ∷ ys) = ⊥
Agree (x ∷ xs) [] = ⊥
Agree (x ∷ xs) (y ∷ ys) = (x.holds ≡ y.given) × (number_of x.refusal ≡ y.number) × Agree xs ys

-- where no reason is given the request is granted
pub none_given : (xs : List Cause) (ys : List Reason) → Agree xs ys → some_given ys ≡ false → judged xs ≡ Ok tt
none_given [] [] a h = refl
none_given [] (y ∷ ys) a h = absurd a
none_given (x ∷ xs) [] a h = absurd a
none_given (x ∷ xs) (y ∷ ys) a h = let k = or_false y.given (some_given ys) h in rw (a.0, k.0) (none_given xs ys a.2 k.1)

-- where one is, it is refused by the number of the first
pub some_given_lem : (xs : List Cause) (ys : List Reason) → Agree xs ys → some_given ys ≡ true
    → (r : Refusal) × (judged xs ≡ Err r) × (number_of r ≡ first_number ys)
some_given_lem [] [] a h = absurd (true≢false (sym h))
some_given_lem [] (y ∷ ys) a h = absurd a
some_given_lem (x ∷ xs) [] a h = absurd a
some_given_lem (x ∷ xs) (y ∷ ys) a h = go y.given refl (λ k. some_given_lem xs ys a.2 k)
  where
    go : (o : Bool) → y.given ≡ o → (some_given ys ≡ true → (r : Refusal) × (judged xs ≡ Err r) × (number_of r ≡ first_number ys))
        → (r : Refusal) × (judged (x ∷ xs) ≡ Err r) × (number_of r ≡ first_number (y ∷ ys))
    go true e rest = rw (a.0, e) (x.refusal, refl, a.1)
    go false e rest = rw (a.0, e) (rest (rw e at h))

-- an answer f that goes by the verdict: of the first cause its number, of none the values
pub in_numbers_lem : (f : Verdict → Answer) (vs : List ℕ) → f (Ok tt) ≡ done vs → ((r : Refusal) → f (Err r) ≡ refusal (number_of r))
    → (xs : List Cause) (ys : List Reason) → Agree xs ys → f (judged xs) ≡ answer_by ys vs
in_numbers_lem f vs served turned xs ys a = go (some_given ys) refl
  where
    go : (o : Bool) → some_given ys ≡ o → f (judged xs) ≡ pick o (refusal (first_number ys)) (done vs)
    go true h = let x = some_given_lem xs ys a h in ap f x.1 ∙ turned x.0 ∙ ap refusal x.2
    go false h = ap f (none_given xs ys a h) ∙ served
