-- What is printed in answer to `from NODE`: document 02, E7, "Lookups by node should be short"; and of the circuits to a node. Assumes nothing.
-- What `put_from` and `put_row` promise.
use Rattle.std.specs.Prelude.{ℕ, ◌+◌, ◌*◌, List, [], ◌∷◌, ◌++◌, length}
use Rattle.basis.specs.Choice.{pick}
use Rattle.limits.specs.Limits.{most_ports}
use Rattle.lightpath.specs.Circuit.{on_ring}
use Rattle.channels.specs.Channels.{Channels}
use Rattle.channels.specs.declared.Standing.{Standing}
use Rattle.refusals.specs.Refusal.{number_of}
use Rattle.refusals.specs.declared.Refusal.TheVariants.{OffRing}
use Rattle.roster.specs.Roster.{entries}
use Rattle.rows.specs.Row.{row_of}
use Rattle.text.specs.Bytes.{bytes}
use Rattle.print.specs.Answers.{line_of}
use Rattle.print.specs.Filled.{filled_room}
use Rattle.row_lines.specs.declared.Listed.{Listed}
use Rattle.row_lines.specs.declared.Listed.TheVariants.{From, To}

-- `circuit NUMBER to DESTINATION place PLACE`
unfoldable pub sent_line : Standing → List ℕ
sent_line m = line_of (("circuit ", m.circuit.number) ∷ (" to ", m.circuit.destination) ∷ (" place ", m.place) ∷ [])

-- `circuit NUMBER from SOURCE place PLACE`, of a circuit to a node, which is entered as one from it: with its ends exchanged
unfoldable pub received_line : Standing → List ℕ
received_line m = line_of (("circuit ", m.circuit.number) ∷ (" from ", m.circuit.destination) ∷ (" place ", m.place) ∷ [])

-- the line of an entry, of those to a node or of those from it
abbrev pub entry_line : Listed → Standing → List ℕ
entry_line To = received_line
entry_line From = sent_line

-- a line for each entry, in their order
abbrev pub entry_lines : Listed → List Standing → List ℕ
entry_lines listed [] = []
entry_lines listed (m ∷ ms) = entry_line listed m ++ entry_lines listed ms

-- `to NODE circuits COUNT`, or `from NODE circuits COUNT`
unfoldable pub first_line : Listed → ℕ → ℕ → List ℕ
first_line To node count = line_of (("to ", node) ∷ (" circuits ", count) ∷ [])
first_line From node count = line_of (("from ", node) ∷ (" circuits ", count) ∷ [])

-- that, and the lines of the node's entries
abbrev pub row_text : Listed → ℕ → List Standing → List ℕ
row_text listed node ms = first_line listed node (length ms) ++ entry_lines listed ms

-- on a ring of N nodes with the places t: the row of the node, by rising number; "a node off the ring: `from refused 10`"
unfoldable pub from_text : ℕ → Channels → ℕ → List ℕ
from_text N t node = pick (on_ring N node) (row_text From node (row_of node (entries t))) (line_of (("from refused ", number_of OffRing) ∷ []))

-- the most bytes that each takes, with ten digits in place of each `#`, the longer of the two where there are two: the first line, a
-- circuit's line, those of all that a node sends or receives, and the answer
abbrev pub first_room : ℕ
first_room = filled_room (bytes "from # circuits #\n")

abbrev pub entry_room : ℕ
entry_room = filled_room (bytes "circuit # from # place #\n")

abbrev pub entry_lines_room : ℕ
entry_lines_room = most_ports * entry_room

abbrev pub from_room : ℕ
from_room = first_room + entry_lines_room
