-- Move records, and the moves of an answer as a list. Assumes nothing. What `RingTable::open` and `tidy` promise.
use Rattle.std.specs.Prelude.{ℕ, List, [], ◌∷◌, take}
use Rattle.moves.specs.declared.Move.{Move}
use Rattle.moves.specs.declared.Moves.{Moves}

-- an opening moves at most three circuits
abbrev pub most_moves : ℕ
most_moves = 3

-- a record that names no move: all zeros
abbrev pub blank : Move
blank = record { number = 0; from = record { 0 = 0 }; to = record { 0 = 0 } }

-- no moves
abbrev pub none : Moves
none = record { count = 0; first = blank; second = blank; third = blank }

-- one move
abbrev pub one : Move → Moves
one m = record { count = 1; first = m; second = blank; third = blank }

-- two moves, in their order
abbrev pub two : Move → Move → Moves
two m n = record { count = 2; first = m; second = n; third = blank }

-- three moves, in their order
abbrev pub three : Move → Move → Move → Moves
three m n o = record { count = 3; first = m; second = n; third = o }

-- a list of up to three moves, by value
abbrev pub moves_of : List Move → Moves
moves_of [] = none
moves_of (a ∷ []) = one a
moves_of (a ∷ b ∷ []) = two a b
moves_of (a ∷ b ∷ c ∷ l) = three a b c

-- the moves of an answer, in their order: as many of the three as its count says, and all of them where it says more
abbrev pub listed : Moves → List Move
listed a = take a.count (a.first ∷ a.second ∷ a.third ∷ [])
