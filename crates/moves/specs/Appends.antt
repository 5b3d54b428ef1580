-- Moves appended to up to 128 by value. Assumes nothing. What `MoveList::with` promises.
use Rattle.std.specs.Prelude.{◌+◌, ◌≡◌, List, ◌++◌, length, drop}
use Rattle.moves.specs.declared.Move.{Move}
use Rattle.moves.specs.declared.MoveList.{MoveList}
use Rattle.moves.specs.MoveList.{recorded}

-- b has the moves of a and then these, and counts them; what stands after them is as it was
pub record Appends (a : MoveList) (moves : List Move) (b : MoveList) : Type 0 where
  pub are : recorded b ≡ recorded a ++ moves
  pub counted : b.count ≡ a.count + length moves
  pub rest : drop b.count b.list ≡ drop b.count a.list
