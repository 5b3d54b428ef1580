-- The search of the places from the highest down, and what it finds. Assumes nothing.
use Prim.Native.Nat.{ℕ, min, ◌<◌}
use mathlib.Core.Path.{◌≡◌, refl, sym, ap, ◌∙◌}
use mathlib.Core.Bool.{Bool, true, false}
use mathlib.Core.List.{List, [], ◌∷◌, ◌++◌}
use native.Mathlib.Decide.{dec_lt}
use native.Mathlib.Omega.{arith}
use lib.Dec.{ltb}
use borrow.Author.Tests.{lt-ltb, le-ltb}
use Rattle.std.specs.Prelude.{Option, Some, None, fold, reverse}
use Rattle.std.proofs.lemmas.List.{reverse-append}
use Rattle.std.proofs.lemmas.List.Sums.{fold-append}
use Rattle.basis.specs.Choice.{pick}
use Rattle.basis.specs.Count.{All}
use Rattle.lightpath.specs.declared.Circuit.{Circuit}
use Rattle.slots.specs.Slot.{held}
use Rattle.channels.specs.Channels.{Channels, circuits}
use Rattle.ending.specs.Ending.{Ending, ends, nobody, served, not_asked, those, lowest_of}
use Rattle.ending.specs.Search.{none_found, lower_of, with_one, with_all, who_is}

-- the circuits of two lists joined
with_append : (f : Circuit → Bool) (xs ys : List Circuit) (b : Option ℕ) → with_all f (xs ++ ys) b ≡ with_all f xs (with_all f ys b)
with_append f [] ys b = refl
with_append f (x ∷ xs) ys b = ap (with_one f x) (with_append f xs ys b)

-- the circuits of the places, from the highest place down
with_places : (f : Circuit → Bool) (t : Channels)
    → fold (λ b ch. with_all f (held ch.slot) b) none_found (reverse t) ≡ with_all f (circuits t) none_found
with_places f [] = refl
with_places f (ch ∷ t) =
    ap (fold (λ b ch. with_all f (held ch.slot) b) none_found) (reverse-append (ch ∷ []) t)
    ∙ fold-append (λ b ch. with_all f (held ch.slot) b) none_found (reverse t) (ch ∷ []) ∙ ap (with_all f (held ch.slot)) (with_places f t)
    ∙ sym (with_append f (held ch.slot) (circuits t) none_found)

module _ (f : Circuit → Bool) (t : Channels) (b : Option ℕ) (is : b ≡ fold (λ b ch. with_all f (held ch.slot) b) none_found (reverse t)) where
  pub found_one : (n : ℕ) → b ≡ Some n → ends n ≡ who_is (with_all f (circuits t) none_found)
  found_one n e = rw (← with_places f t, ← is, e)

  pub found_none : b ≡ None → nobody ≡ who_is (with_all f (circuits t) none_found)
  found_none e = rw (← with_places f t, ← is, e)

-- what is found is the lowest-numbered of those that pass, where the test goes by the number
pub found_lowest : (f : Circuit → Bool) (g : ℕ → Bool) (xs : List Circuit) → All (λ x. g x.number ≡ f x) xs
    → who_is (with_all f xs none_found) ≡ lowest_of (those g xs)
found_lowest f g [] h = refl
found_lowest f g (x ∷ xs) h = rw h.0 (step (f x) (with_all f xs none_found) (those g xs) (found_lowest f g xs h.1))
  where
    number : Ending → ℕ
    number (ends n) = n
    number nobody = 0
    number served = 0
    number (not_asked r) = 0

    least : (m k : ℕ) → min m k ≡ pick (ltb m k) m k
    least m k = go (dec_lt m k)
      where
        go : Dec (m < k) → min m k ≡ pick (ltb m k) m k
        go (yes l) = rw (lt-ltb m k l) (omega arith)
        go (no n) = rw (le-ltb m k (omega arith)) (omega arith)

    lower : (b : Option ℕ) (ys : List Circuit) → who_is b ≡ lowest_of ys → who_is (lower_of x.number b) ≡ lowest_of (x ∷ ys)
    lower (Some m) [] e = let z : ◌≡◌ {A = ℕ} 0 1 = cc in absurd (omega arith)
    lower (Some m) (y ∷ ys) e = rw (least m x.number, ← ap number e)
    lower None [] e = refl
    lower None (y ∷ ys) e = let z : ◌≡◌ {A = ℕ} 0 1 = cc in absurd (omega arith)

    step : (o : Bool) (b : Option ℕ) (ys : List Circuit) → who_is b ≡ lowest_of ys → who_is (pick o (lower_of x.number b) b) ≡ lowest_of (pick o (x ∷ ys) ys)
    step true b ys e = lower b ys e
    step false b ys e = e
