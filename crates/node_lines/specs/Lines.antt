-- What is printed in answer to `to NODE`, the circuits to a node, and to `nodes`, the ports of each node and how many are in use. Assumes
-- nothing. What `put_to` and `put_nodes` promise.
use Rattle.std.specs.Prelude.{ℕ, zero, suc, ◌+◌, ◌*◌, List, [], ◌∷◌, ◌++◌, eqb}
use Rattle.basis.specs.Choice.{pick}
use Rattle.limits.specs.Limits.{most_nodes}
use Rattle.lightpath.specs.Circuit.{on_ring}
use Rattle.lightpath.specs.declared.Circuit.{Circuit}
use Rattle.channels.specs.Channels.{Channels, slots, circuits}
use Rattle.channels.specs.declared.Standing.{Standing}
use Rattle.ports.specs.Ports.{ports_at}
use Rattle.ports_used.specs.PortsUsed.{sends, receives}
use Rattle.refusals.specs.Refusal.{number_of}
use Rattle.refusals.specs.declared.Refusal.TheVariants.{OffRing}
use Rattle.roster.specs.Roster.{standings_from, filed_all}
use Rattle.text.specs.Bytes.{bytes}
use Rattle.print.specs.Answers.{line_of}
use Rattle.print.specs.Filled.{filled_room}
use Rattle.row_lines.specs.declared.Listed.TheVariants.{To}
use Rattle.row_lines.specs.Lines.{row_text}

-- a circuit with its ends exchanged
abbrev pub exchanged : Circuit → Circuit
exchanged c = record { number = c.number; source = c.destination; destination = c.source; remark = c.remark; account = c.account }

-- of some circuits with their places, those to a node, each entered as one from it: with its ends exchanged
abbrev pub arrivals : ℕ → List Standing → List Standing
arrivals node [] = []
arrivals node (m ∷ ms) =
    pick (eqb m.circuit.destination node) (record { place = m.place; circuit = exchanged m.circuit } ∷ arrivals node ms) (arrivals node ms)

-- the circuits of some places to a node, so entered; all are from the node now, and entries of one source go by rising number
unfoldable pub arrived : ℕ → Channels → List Standing
arrived node t = filed_all (arrivals node (standings_from 0 (slots t))) []

-- on a ring of N nodes with the places t: the circuits to the node, by rising number; "a node off the ring: `to refused 10`"
unfoldable pub to_text : ℕ → Channels → ℕ → List ℕ
to_text N t node = pick (on_ring N node) (row_text To node (arrived node t)) (line_of (("to refused ", number_of OffRing) ∷ []))

-- `node I ports K sends S receives R`, of the port counts ks and the places t
unfoldable pub node_line : List ℕ → Channels → ℕ → List ℕ
node_line ks t i =
    line_of (("node ", i) ∷ (" ports ", ports_at ks i) ∷ (" sends ", sends i (circuits t)) ∷ (" receives ", receives i (circuits t)) ∷ [])

-- the lines of so many nodes, from node i on
abbrev pub node_lines : List ℕ → Channels → ℕ → ℕ → List ℕ
node_lines ks t zero i = []
node_lines ks t (suc n) i = node_line ks t i ++ node_lines ks t n (suc i)

-- `nodes N`, and a line for each node of the ring
unfoldable pub nodes_text : ℕ → List ℕ → Channels → List ℕ
nodes_text N ks t = line_of (("nodes ", N) ∷ []) ++ node_lines ks t N 1

-- the most bytes that the lines of the nodes take, with ten digits in place of each `#`: a line, all of them, and the answer
abbrev pub node_room : ℕ
node_room = filled_room (bytes "node # ports # sends # receives #\n")

abbrev pub node_lines_room : ℕ
node_lines_room = most_nodes * node_room

abbrev pub nodes_room : ℕ
nodes_room = filled_room (bytes "nodes #\n") + node_lines_room
