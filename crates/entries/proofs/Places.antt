-- The position of the first element that passes a test, by index. Assumes nothing.
use Prim.Native.Nat.{suc, ◌≤◌}
use mathlib.Core.Path.{◌≡◌, refl}
use mathlib.Core.Bool.{Bool, true, false}
use mathlib.Core.List.{List, [], ◌∷◌}
use native.Mathlib.Omega.{arith}
use lib.ListN.{length, get_or}
use Rattle.basis.specs.Choice.{pick}
use Rattle.basis.specs.Search.{first_below, first_place}

-- it is the first number below the length at which the element passes
pub place_below : {A : Type 0} (f : A → Bool) (d : A) (l : List A) → first_place f l ≡ first_below (length l) (λ i. f (get_or l i d))
place_below f d [] = refl
place_below f d (x ∷ xs) = rw (place_below f d xs)

-- and at most the length
pub place_most : {A : Type 0} (f : A → Bool) (l : List A) → first_place f l ≤ length l
place_most f [] = omega arith
place_most f (x ∷ xs) = go (f x) (place_most f xs)
  where
    go : (b : Bool) → first_place f xs ≤ length xs → pick b 0 (suc (first_place f xs)) ≤ suc (length xs)
    go true h = omega arith
    go false h = omega arith
