-- The desk of a script, and what one line does and prints: document 01, "The script program and its cases". Assumes nothing.
-- What `run_line` promises.
use Rattle.std.specs.Prelude.{ℕ, ◌+◌, ◌≤◌, ◌≡◌, Bool, true, false, List, ◌++◌, length, take, Option, Some, None, Ok, Err}
use Rattle.basis.specs.Choice.{pick}
use Rattle.limits.specs.Limits.{most_circuits, least_records}
use Rattle.lightpath.specs.declared.Circuit.{Circuit}
use Rattle.moves.specs.Records.{listed}
use Rattle.ports.specs.Ports.{wavelengths}
use Rattle.ring.specs.Table.{blank_table}
use Rattle.ring.specs.Making.{make_of}
use Rattle.ring.specs.Opening.{decide_of}
use Rattle.ring.specs.Closing.{close_of}
use Rattle.ring.specs.declared.RingTable.{RingTable}
use Rattle.roster.specs.Roster.{blank_roster}
use Rattle.roster.specs.Held.{table_in, HoldsTable}
use Rattle.requests.specs.declared.Request.{Request}
use Rattle.requests.specs.declared.Request.TheVariants.{Ring, Open, Close, Bad}
use Rattle.requests.specs.Line.{parse_line}
use Rattle.buffer.specs.Put.{Printed}
use Rattle.print.specs.Answers.{line_refused, ring_line, close_line, open_line, move_lines, opening_room}
use Rattle.roster.specs.declared.Heading.{Heading}
pub use Rattle.desk.specs.declared.Ran.{Ran}
use Rattle.refusals.specs.Refusal.{Verdict}

-- the desk: whether a ring was accepted, and its table
pub record Desk : Type 0 where
  pub ready : Bool
  pub table : RingTable

-- the desk before the first accepted ring: its table is blank
abbrev pub empty_desk : Desk
empty_desk = record { ready = false; table = blank_table }

-- the desk with the table of an accepted ring
abbrev pub desk_with : RingTable → Desk
desk_with t = record { ready = true; table = t }

-- the desk that the heading of an accepted ring, keys and rests are: its table is the one of the heading, the keys and the rests (02, E7)
abbrev pub desk_of : Option Heading → List ℕ → List ℕ → Desk
desk_of (Some h) keys rests = desk_with (table_in h keys rests)
desk_of None keys rests = empty_desk

-- the keys and rests are a roster's, and hold the table of an accepted ring, which meets the ring rules; before there is one they are blank
pub record Keeps (s : Option Heading) (keys rests : List ℕ) : Type 0 where
  pub held : (h : Heading) → s ≡ Some h → HoldsTable (table_in h keys rests) h keys rests
  pub blank : s ≡ None → (keys ≡ blank_roster.keys) × (rests ≡ blank_roster.rests)
  pub long_keys : length keys ≡ most_circuits
  pub long_rests : length rests ≡ most_circuits

-- the desk after a line, and what is printed
pub record Outcome : Type 0 where
  pub desk : Desk
  pub text : List ℕ

-- "prints `line refused`", and nothing changes
abbrev pub refuse : Desk → Outcome
refuse d = record { desk = d; text = line_refused }

-- "A refused ring keeps the old table"
abbrev pub desk_after : Desk → RingTable → Verdict → Desk
desk_after d t (Ok _) = desk_with t
desk_after d t (Err r) = d

-- "`ring N k..`"
unfoldable pub run_ring : Desk → ℕ → List ℕ → Outcome
run_ring d n ks =
    let a = make_of n ks in
    record { desk = desk_after d a.table a.verdict; text = ring_line n (wavelengths a.table.ports) a.verdict }

-- "`open number source destination remark`" and the account, with the least records lent, three; "an open or close before the first accepted
-- ring" is refused
unfoldable pub run_open : Desk → Circuit → Outcome
run_open d c =
    let a = decide_of d.table c least_records in
    pick d.ready (record { desk = desk_with a.opened.table; text = open_line c.number a.opened.answer ++ move_lines (listed a.moves) }) (refuse d)

-- "`close number`"
unfoldable pub run_close : Desk → ℕ → Outcome
run_close d n =
    let a = close_of d.table n in
    pick d.ready (record { desk = desk_with a.table; text = close_line n a.verdict }) (refuse d)

-- a request; of the ports ks the first so many are a ring's
abbrev pub run : Desk → Request → List ℕ → Outcome
run d (Ring n count) ks = run_ring d n (take count ks)
run d (Open c) ks = run_open d c
run d (Close n) ks = run_close d n
run d Bad ks = refuse d

-- what a line does, by what it asks for
abbrev pub run_line : Desk → List ℕ → Outcome
run_line d l = run d (parse_line l).request (parse_line l).ports

-- the most bytes that a line's answer takes: an opening's is the longest
abbrev pub answer_room : ℕ
answer_room = opening_room

-- what running a line asks for: keys and rests that hold the desk's table, and room for the answer
pub record CanRun (s : Option Heading) (keys rests l : List ℕ) (at : ℕ) : Type 0 where
  pub keeps : Keeps s keys rests
  pub room : at + answer_room ≤ length l

-- a line was run: the desk is as defined, the text stands in the lent bytes, and the table meets the ring rules again
pub record HasRun (o : Outcome) (l : List ℕ) (at : ℕ) (keys rests l' : List ℕ) (r : Ran) : Type 0 where
  pub desk : desk_of r.desk keys rests ≡ o.desk
  pub text : Printed answer_room l at o.text l' r.next
  pub keeps : Keeps r.desk keys rests
