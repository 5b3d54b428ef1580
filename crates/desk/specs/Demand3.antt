-- Demand 3 in what an opening leaves and prints: the place, the moves and the looks are those of an opening of which it holds, and so are the
-- records in the move lines; a refusal prints the number of the first reason. Assumes nothing. What `run_line` promises of its result.
use Rattle.std.specs.Prelude.{ℕ, ◌≡◌, ◌↔◌, true, false, List, [], ◌∷◌, ◌++◌}
use Rattle.std.proofs.Math.Seq.{slice}
use Rattle.lightpath.specs.declared.Circuit.{Circuit}
use Rattle.moves.specs.declared.Move.{Move}
use Rattle.refusals.specs.Answer.{some_given, first_number}
use Rattle.ring.specs.Demand3.{reasons, Served3}
use Rattle.ring.specs.Numbers.{open_values}
use Rattle.ring.specs.declared.RingTable.{RingTable}
use Rattle.requests.specs.declared.Request.TheVariants.{Open}
use Rattle.requests.specs.Line.{parse_line}
use Rattle.print.specs.Answers.{served_line, refused_line, move_lines}
use Rattle.desk.specs.Desk.{Desk, Ran, desk_with, desk_of, Outcome}

-- a request that has a reason against it prints the first's number, and nothing changes
pub record Refuses (d : Desk) (c : Circuit) (o : Outcome) : Type 0 where
  pub desk : o.desk ≡ d
  pub text : o.text ≡ refused_line c.number (first_number (reasons d.table c 3))

-- any other is served: demand 3 holds of the desk's table before and after, the place, the number of moves and the records
pub record Serves (d : Desk) (c : Circuit) (o : Outcome) : Type 0 where
  pub table : RingTable
  pub place : ℕ
  pub moves : ℕ
  pub looks : ℕ
  pub records : List Move
  pub demand3 : Served3 d.table c table place moves records
  -- "place taken, number of moves, looks", as the steps have them
  pub values : place ∷ moves ∷ looks ∷ [] ≡ open_values d.table c
  pub desk : o.desk ≡ desk_with table
  pub text : o.text ≡ served_line c.number place moves looks ++ move_lines records

-- the whole of it, of an opening of c after the first accepted ring: o is the desk afterwards and what was printed
pub record OpensBy (d : Desk) (c : Circuit) (o : Outcome) : Type 0 where
  -- "the tables before and after are equal exactly when .."
  pub equal : (o.desk.table ≡ d.table) ↔ (some_given (reasons d.table c 3) ≡ true)
  pub refuses : some_given (reasons d.table c 3) ≡ true → Refuses d c o
  pub serves : some_given (reasons d.table c 3) ≡ false → Serves d c o

-- so it is of each line that asks for an opening
pub record Opens (d : Desk) (line : List ℕ) (o : Outcome) : Type 0 where
  pub each : (c : Circuit) → (parse_line line).request ≡ Open c → d.ready ≡ true → OpensBy d c o

-- what a line left: the desk of the keys and the rests, and the text in the lent bytes l from the position of its answer on
abbrev pub left_by : ℕ → List ℕ → List ℕ → List ℕ → Ran → Outcome
left_by at keys rests l r = record { desk = desk_of r.desk keys rests; text = slice at r.next l }
