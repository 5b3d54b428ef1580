-- The moves of an answer by value and as a list. Assumes nothing.
use Prim.Native.Nat.{◌≤◌, min}
use mathlib.Core.Path.{◌≡◌, refl}
use mathlib.Core.List.{List, [], ◌∷◌}
use native.Mathlib.Omega.{arith}
use lib.ListN.{length, length-take}
use Rattle.moves.specs.declared.Move.{Move}
use Rattle.moves.specs.declared.Moves.{Moves}
use Rattle.moves.specs.Records.{most_moves, moves_of, listed}

-- no answer lists more than three
pub listed_most : (a : Moves) → length (listed a) ≤ most_moves
listed_most a = simp length-take (omega arith)

-- there are as many as the count says, or three where it says more
pub length_listed : (a : Moves) → length (listed a) ≡ min a.count most_moves
length_listed a = length-take a.count _

-- up to three moves by value are listed again as they were
pub listed_moves : (ms : List Move) → length ms ≤ most_moves → listed (moves_of ms) ≡ ms
listed_moves [] h = refl
listed_moves (a ∷ []) h = refl
listed_moves (a ∷ b ∷ []) h = refl
listed_moves (a ∷ b ∷ c ∷ []) h = refl
listed_moves (a ∷ b ∷ c ∷ d ∷ ms) h = absurd (omega arith)

-- and counted
pub count_moves : (ms : List Move) → length ms ≤ most_moves → (moves_of ms).count ≡ length ms
count_moves [] h = refl
count_moves (a ∷ []) h = refl
count_moves (a ∷ b ∷ []) h = refl
count_moves (a ∷ b ∷ c ∷ []) h = refl
count_moves (a ∷ b ∷ c ∷ d ∷ ms) h = absurd (omega arith)
