-- What a question of the table asks for and is answered, and a line that changes nothing. Assumes nothing. Serves proofs inside only.
use Rattle.std.specs.Prelude.{ℕ, ◌+◌, ◌≤◌, ◌≡◌, Bool, true, List, [], length, Option}
use Rattle.ring.specs.Table.{meets_rules}
use Rattle.ring.specs.declared.RingTable.{RingTable}
use Rattle.basis.specs.Choice.{pick}
use Rattle.buffer.specs.Put.{Printed}
use Rattle.text.specs.Bytes.{bytes}
use Rattle.inventory.specs.Lines.{length_line, length_room}
use Rattle.commands.specs.declared.Question.{Question}
use Rattle.desk.specs.Desk.{Desk}
use Rattle.roster.specs.declared.Heading.{Heading}
use Rattle.desk.specs.declared.Ran.{Ran}
use Rattle.answer_room.specs.Room.{line_room}
use Rattle.planner_lines.specs.Line.{Free, says, if_ready, answer_text}
use Rattle.planner_lines.specs.Ran.{LineAnswered}

-- a table that meets the ring rules, and room for the answer
pub record Asks (t : RingTable) (l : List ℕ) (at : ℕ) : Type 0 where
  pub rules : meets_rules t ≡ true
  pub room : at + line_room ≤ length l

-- a text was printed, and the desk is as it was
pub record Said (s : Option Heading) (text l : List ℕ) (at : ℕ) (l' : List ℕ) (r : Ran) : Type 0 where
  pub desk : r.desk ≡ s
  pub printed : Printed line_room l at text l' r.next

-- the answer to a form of n bytes that is to be written to a file: its length, or that it failed
pub record FileWritten (n : ℕ) (l : List ℕ) (at : ℕ) (l' : List ℕ) (next : ℕ) : Type 0 where
  pub wrote : Bool
  pub text : Printed length_room l at (pick wrote (length_line n) (bytes "write failed\n")) l' next

-- a question of a table was answered, whatever was free
pub record QuestionAnswered (t : RingTable) (q : Question) (l : List ℕ) (at : ℕ) (l' : List ℕ) (next : ℕ) : Type 0 where
  pub free : Free
  pub none : free.content ≡ []
  pub text : Printed line_room l at (answer_text free t q) l' next

-- and a line that asks it run
pub record QuestionRun (d : Desk) (q : Question) (l : List ℕ) (at : ℕ) (keys rests l' : List ℕ) (r : Ran) : Type 0 where
  pub free : Free
  pub none : free.content ≡ []
  pub ran : LineAnswered (if_ready d (says d (answer_text free d.table q))) l at keys rests l' r
