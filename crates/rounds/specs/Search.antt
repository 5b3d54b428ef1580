-- The search for the first pair that can be joined, among some pairs. Assumes nothing. Serves proofs inside only.
use Rattle.std.specs.Prelude.{ℕ, ◌<◌, ◌≡◌, Bool, false, ◌&&◌, ◌||◌, List, [], ◌∷◌, ltb, Option, Some, None}
use Rattle.basis.specs.Choice.{pick}
use Rattle.basis.specs.Count.{All}
use Rattle.lightpath.specs.Circuit.{adjacent, share_direction}
use Rattle.channels.specs.declared.Standing.{Standing}
use Rattle.steps.specs.Steps.{stands_right}
use Rattle.rounds.specs.Room.{Room, lowest_of}
pub use Rattle.rounds.specs.declared.Hit.{Hit}

-- a pair can be joined, by the unlit places that there are
abbrev pub joinable_in : ℕ → ℕ → Room → Standing × Standing → Bool
joinable_in N m room pair =
    stands_right N pair.0 pair.1 pair.0 || stands_right N pair.0 pair.1 pair.1
    || (adjacent pair.0.circuit pair.1.circuit && ltb (lowest_of room (share_direction N pair.0.circuit pair.1.circuit)) m)

-- the first of some pairs that passes a test
abbrev pub first_hit : (Standing × Standing → Bool) → List (Standing × Standing) → Option Hit
first_hit f [] = None
first_hit f (pair ∷ rest) = pick (f pair) (Some (record { first = pair.0; second = pair.1 })) (first_hit f rest)

-- none passes whose first member stands below a place
abbrev pub Skipping : (Standing × Standing → Bool) → ℕ → List (Standing × Standing) → Type 0
Skipping f from pairs = All (λ pair. pair.0.place < from → f pair ≡ false) pairs
