-- 02, E5: up to 128 moves by value, those of a tidying, and what the list of move records that a host lends holds after it. Assumes nothing.
-- What `RingTable::tidy`, `decide_tidy` and `decide_tidy_valid` promise.
use Rattle.std.specs.Prelude.{◌-◌, List, ◌++◌, length, take, replicate}
use Rattle.limits.specs.Limits.{tidy_records}
use Rattle.moves.specs.declared.Move.{Move}
use Rattle.moves.specs.declared.MoveList.{MoveList}
use Rattle.moves.specs.Records.{blank}
use Rattle.moves.specs.Lent.{fronted}

-- the moves, in their order: as many of the list as its count says, and all of them where it says more
abbrev pub recorded : MoveList → List Move
recorded a = take a.count a.list

-- up to 128 moves by value: blank records stand after them
abbrev pub list_of : List Move → MoveList
list_of ms = record { count = length ms; list = ms ++ replicate (tidy_records - length ms) blank }

-- "records stand in the order of the moves, and those after them keep their values", in a list that has room for them
abbrev pub written_all : List Move → MoveList → List Move
written_all lent a = fronted (length (recorded a)) (recorded a) lent
