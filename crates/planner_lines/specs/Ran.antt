-- A line run by the planner's program on keys and rests that are lent: what it asks for, and what it leaves. Assumes nothing.
-- What running any line asks for and promises.
use Rattle.std.specs.Prelude.{ℕ, ◌+◌, ◌≤◌, ◌≡◌, Bool, List, length, Option}
use Rattle.buffer.specs.Put.{Printed}
use Rattle.desk.specs.Desk.{Desk, desk_of, Keeps, Outcome}
use Rattle.roster.specs.declared.Heading.{Heading}
use Rattle.desk.specs.declared.Ran.{Ran}
use Rattle.commands.specs.Command.{most_read}
use Rattle.answer_room.specs.Room.{line_room}
use Rattle.planner_lines.specs.Line.{Free, read_file, plan_line}

-- keys and rests that hold the desk's table, and room for the answer
pub record CanAnswer (s : Option Heading) (keys rests l : List ℕ) (at : ℕ) : Type 0 where
  pub keeps : Keeps s keys rests
  pub room : at + line_room ≤ length l

-- a line had its outcome: the desk is as defined, the text stands in the lent bytes, and the table meets the ring rules again
pub record LineAnswered (o : Outcome) (l : List ℕ) (at : ℕ) (keys rests l' : List ℕ) (r : Ran) : Type 0 where
  pub desk : desk_of r.desk keys rests ≡ o.desk
  pub text : Printed line_room l at o.text l' r.next
  pub keeps : Keeps r.desk keys rests

-- a file was read, or could not be
pub record FileAnswered (d : Desk) (l : List ℕ) (at : ℕ) (keys rests l' : List ℕ) (r : Ran) : Type 0 where
  pub opened : Bool
  pub content : List ℕ
  pub few : length content ≤ most_read
  pub ran : LineAnswered (read_file d opened content) l at keys rests l' r

-- a line was run: its outcome is the one defined, for what it left free; of a file at most 4,096 bytes are read
pub record LineRun (d : Desk) (line l : List ℕ) (at : ℕ) (keys rests l' : List ℕ) (r : Ran) : Type 0 where
  pub free : Free
  pub few : length free.content ≤ most_read
  pub ran : LineAnswered (plan_line free d line) l at keys rests l' r
