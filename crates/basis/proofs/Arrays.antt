-- Arrays of structs, the first elements of an array, counted and lent, and an element put in. Assumes nothing.
use Prim.Native.Nat.{ℕ, zero, suc, ◌≤◌, zero-le, suc-le-suc}
use mathlib.Core.Path.{◌≡◌, refl, sym, ◌∙◌}
use mathlib.Core.List.{List, [], ◌∷◌, ◌++◌, map}
use native.Mathlib.Omega.{arith}
use lib.ListN.{length, take, drop, length-map}
use lib.Seq.{length-take-le}

-- the length of an array of structs, which is known of the list of what they are stored as
pub array_length : (X Y : Type 0) (stored : X → Y) (array : List X) (n : ℕ) → length (map stored array) ≡ n → length array ≡ n
array_length X Y stored array n e = sym (length-map array stored) ∙ e

-- the first n elements are at most n
pub take_most : {A : Type 0} (n : ℕ) (xs : List A) → length (take n xs) ≤ n
take_most zero xs = zero-le
take_most (suc n) [] = zero-le
take_most (suc n) (x ∷ xs) = suc-le-suc (take_most n xs)

-- what a caller that lends the first n elements of an array has to show: they are there
pub lent_within : {A : Type 0} (array : List A) (width n : ℕ) → length array ≡ width → n ≤ width → n ≤ length array
lent_within array width n e h = omega arith

-- and are n
pub lent_counted : {A : Type 0} (array : List A) (n : ℕ) → n ≤ length array → n ≡ length (take n array)
lent_counted array n h = sym (length-take-le n array h)

-- an element put in is put in where a list is mapped
pub map_insert : {A B : Type 0} (f : A → B) (k : ℕ) (x : A) (xs : List A) → map f (take k xs ++ (x ∷ drop k xs)) ≡ take k (map f xs) ++ (f x ∷ drop k (map f xs))
map_insert f zero x xs = refl
map_insert f (suc k) x [] = refl
map_insert f (suc k) x (y ∷ xs) = rw (map_insert f k x xs)
