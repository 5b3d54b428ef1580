-- What it is to gather a list into an array. Assumes nothing. Serves proofs inside only.
use Rattle.std.specs.Prelude.{ℕ, ◌≤◌, ◌≡◌, List, length, take}

-- the first `count` elements of the array are the list, which is that long, at most `most`; what stands after them in the array is free
pub record Gathers {A : Type 0} (most : ℕ) (array : List A) (count : ℕ) (list : List A) : Type 0 where
  pub are : take count array ≡ list
  pub counted : length list ≡ count
  pub fits : count ≤ most
