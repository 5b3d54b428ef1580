-- The input of the planner's program: what its bytes do and print as they come, and what its lines do and print. Assumes nothing.
-- What `feed` and `finish` promise.
use Rattle.std.specs.Prelude.{ℕ, ◌≤◌, ◌≡◌, List, [], ◌∷◌, ◌++◌, length, take}
use Rattle.desk.specs.Desk.{Desk, empty_desk}
use Rattle.script.specs.Bytes.{Script}
use Rattle.commands.specs.Command.{most_read}
use Rattle.planner_lines.specs.Line.{Free, plan_line}
use Rattle.ringplan.specs.Plan.{held_room}

-- before the first byte
abbrev pub start_script : Script
start_script = record { desk = empty_desk; held = [] }

-- from s on some bytes were taken in and some bytes printed, one after the other: a line end runs the line held, for what the line leaves free,
-- and any other byte is held
pub data Takes (s : Script) : List ℕ → List ℕ → Script → Type 0 where
  nothing : Takes s [] [] s
  ended : {input output : List ℕ} {t : Script} (free : Free) → length free.content ≤ most_read → Takes s input output t
      → Takes s (input ++ (10 ∷ [])) (output ++ (plan_line free t.desk t.held).text) (record { desk = (plan_line free t.desk t.held).desk; held = [] })
  more : {input output : List ℕ} {t : Script} (x : ℕ) → (x ≡ 10 → ⊥) → Takes s input output t
      → Takes s (input ++ (x ∷ [])) output (record { desk = t.desk; held = take held_room (t.held ++ (x ∷ [])) })

-- from the desk d on some lines were run and printed some bytes, one after the other
pub data Runs (d : Desk) : List (List ℕ) → List ℕ → Desk → Type 0 where
  none : Runs d [] [] d
  ran : {lines : List (List ℕ)} {output : List ℕ} {e : Desk} (free : Free) (line : List ℕ) → length free.content ≤ most_read → Runs d lines output e
      → Runs d (lines ++ (line ∷ [])) (output ++ (plan_line free e line).text) (plan_line free e line).desk
