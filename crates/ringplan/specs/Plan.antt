-- What the planner's program keeps to between two reads. Assumes nothing.
use Rattle.std.specs.Prelude.{ℕ, ◌+◌, ◌≤◌, List, length, take, None}
use Rattle.commands.specs.Command.{longest_command}
use Rattle.desk.specs.Desk.{desk_of, Keeps}
use Rattle.script.specs.Bytes.{Script}
use Rattle.answer_room.specs.Room.{line_room}
use Rattle.ringplan.specs.declared.input.Held.{Held}

-- a line's bytes, and one more by which a line is seen to be too long
abbrev pub held_room : ℕ
held_room = longest_command + 1

-- between two reads: the keys and the rests hold the desk's table, which meets the ring rules, and there is room for a line and for an answer
pub record BetweenReads (h : Held) (keys rests line out : List ℕ) : Type 0 where
  pub keeps : Keeps h.desk keys rests
  pub few : h.count ≤ held_room
  pub width : held_room ≤ length line
  pub room : line_room ≤ length out

-- the desk, and the bytes of a line that has not ended
abbrev pub script_in : Held → List ℕ → List ℕ → List ℕ → Script
script_in h keys rests line = record { desk = desk_of h.desk keys rests; held = take h.count line }

-- before the first byte
abbrev pub start_held : Held
start_held = record { desk = None; count = 0 }
