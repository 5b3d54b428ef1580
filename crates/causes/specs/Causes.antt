-- 01, "By whom it can be caused": what a ring is refused for, and a request by the nodes that it names. Assumes nothing.
-- What `RingTable::make`, `open`, `decide` and `decide_valid` promise.
use Rattle.std.specs.Prelude.{ℕ, ◌&&◌, not, List, [], ◌∷◌, eqb, leb, length}
use Rattle.basis.specs.Count.{total}
use Rattle.limits.specs.Limits.{least_nodes, most_nodes, most_ports, most_total}
use Rattle.lightpath.specs.Circuit.{on_ring}
use Rattle.lightpath.specs.declared.Circuit.{Circuit}
use Rattle.ports.specs.Ports.{each_at_most}
use Rattle.refusals.specs.Refusal.{Cause, ◌if◌}
use Rattle.refusals.specs.declared.Refusal.TheVariants.{NodeCount, PortCount, PortSum, OffRing, SameNode}

-- some k_i above 64; K above 192
abbrev pub port_causes : List ℕ → List Cause
port_causes ks = (PortCount if not (each_at_most most_ports ks)) ∷ (PortSum if not (leb (total ks) most_total)) ∷ []

-- N outside 3 to 64, or a port list not N long; then those
abbrev pub make_causes : ℕ → List ℕ → List Cause
make_causes N ks = (NodeCount if not (leb least_nodes N && leb N most_nodes && eqb (length ks) N)) ∷ port_causes ks

-- what a request is refused for by the nodes that it names, on a ring of N nodes: 10, 11
abbrev pub named_causes : ℕ → Circuit → List Cause
named_causes N c = (OffRing if not (on_ring N c.source && on_ring N c.destination)) ∷ (SameNode if eqb c.source c.destination) ∷ []
