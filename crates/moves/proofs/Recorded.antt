-- The moves of a tidying by value and as a list. Assumes nothing.
use mathlib.Core.Path.{◌≡◌}
use mathlib.Core.List.{List}
use lib.Seq.{take-append_seam}
use Rattle.moves.specs.declared.Move.{Move}
use Rattle.moves.specs.MoveList.{recorded, list_of}

-- moves by value are recorded again as they were
pub recorded_list : (ms : List Move) → recorded (list_of ms) ≡ ms
recorded_list ms = take-append_seam ms _
