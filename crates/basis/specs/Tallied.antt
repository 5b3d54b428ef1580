-- An array of counts by key. Assumes nothing. Serves proofs inside only.
use Rattle.std.specs.Prelude.{ℕ, ◌<◌, ◌≡◌, List, length, get_or}
use Rattle.basis.specs.Count.{tally}

-- an array of so many counts has at k how many elements of a list have the key k
pub record Tallied {A : Type 0} (key : A → ℕ) (xs : List A) (room : ℕ) (counts : List ℕ) : Type 0 where
  pub at : (k : ℕ) → k < room → get_or counts k 0 ≡ tally key k xs
  pub long : length counts ≡ room
