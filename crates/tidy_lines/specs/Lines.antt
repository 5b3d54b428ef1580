-- What is printed in answer to `tidy`: document 02, E5. Assumes nothing. What `put_tidying` promises.
use Rattle.std.specs.Prelude.{ℕ, ◌+◌, ◌*◌, List, [], ◌∷◌, Err, Ok}
use Rattle.limits.specs.Limits.{tidy_records}
use Rattle.refusals.specs.Refusal.{number_of}
use Rattle.text.specs.Bytes.{bytes}
use Rattle.print.specs.Answers.{line_of, move_room}
use Rattle.print.specs.Filled.{filled_room}
use Rattle.ring.specs.Tidying.{Tidying}

-- `tidy rounds R moves M`: "it answers the number of rounds and of moves"; or `tidy refused R`
abbrev pub tidy_line : Tidying → List ℕ
tidy_line (Ok x) = line_of (("tidy rounds ", x.rounds) ∷ (" moves ", x.moves) ∷ [])
tidy_line (Err r) = line_of (("tidy refused ", number_of r) ∷ [])

-- the most bytes that the line takes, with ten digits in place of each `#`: those of the longer one
abbrev pub tidy_line_room : ℕ
tidy_line_room = filled_room (bytes "tidy rounds # moves #\n")

-- and its move lines, as many as there are records
abbrev pub moves_room : ℕ
moves_room = tidy_records * move_room

abbrev pub tidy_room : ℕ
tidy_room = tidy_line_room + moves_room
