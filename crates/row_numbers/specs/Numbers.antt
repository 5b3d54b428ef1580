-- The numbers of the picture's rows. Assumes nothing.
-- What `numbers_of` promises.
use Rattle.std.specs.Prelude.{ℕ, ◌+◌, ◌-◌, ◌/◌, ◌%◌, ◌<◌, ◌≡◌, List, length, get_or}
use Rattle.limits.specs.Limits.{most_nodes}
use Rattle.lightpath.specs.Circuit.{next}
use Rattle.lightpath.specs.declared.Circuit.{Circuit}
use Rattle.lightpath.specs.declared.Direction.TheVariants.{Clockwise as clockwise, Counterclockwise as counterclockwise}
use Rattle.channels.specs.Channels.{circuits}
use Rattle.ports.specs.Ports.{ports_at}
use Rattle.ports_used.specs.PortsUsed.{sends, receives}
use Rattle.ring.specs.declared.RingTable.{RingTable}
use Rattle.load.specs.Load.{link_load}
use Rattle.link_question.specs.Link.{link_of}
use Rattle.row_numbers.specs.declared.Row.{Row}
use Rattle.row_numbers.specs.declared.Row.TheVariants.{From, To, Place, Clockwise, Counterclockwise, Nodes, Senders, Receivers}
use Rattle.row_numbers.specs.declared.End.{End}
use Rattle.row_numbers.specs.declared.End.TheVariants.{Source, Destination}

-- the node at an end of a circuit
abbrev pub node_at : End → Circuit → ℕ
node_at Source c = c.source
node_at Destination c = c.destination

-- the number of a row at link or node i: place p shows there what the one-link question answers, and a node the ports that it has and
-- does not use
abbrev pub number_at : RingTable → Row → ℕ → ℕ
number_at t From i = i
number_at t To i = next t.nodes i
number_at t (Place p) i = link_of t i (p / 2) (p % 2)
number_at t Clockwise i = link_load t.nodes t.channels clockwise i
number_at t Counterclockwise i = link_load t.nodes t.channels counterclockwise i
number_at t Nodes i = i
number_at t Senders i = ports_at t.ports i - sends i (circuits t.channels)
number_at t Receivers i = ports_at t.ports i - receives i (circuits t.channels)

-- the numbers of a row at its first links or nodes stand in a list, that of link or node 1 first
pub record Numbered (t : RingTable) (row : Row) (count : ℕ) (numbers : List ℕ) : Type 0 where
  pub width : length numbers ≡ most_nodes
  pub each : (i : ℕ) → i < count → get_or numbers i 0 ≡ number_at t row (i + 1)
