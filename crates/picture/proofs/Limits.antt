-- What the rules bound, for a picture: the nodes and the places that may be lit. Assumes nothing.
use Prim.Native.Nat.{ℕ, ◌≤◌}
use mathlib.Core.Path.{◌≡◌}
use native.Mathlib.Omega.{arith}
use Rattle.limits.specs.Limits.{place_count, most_nodes}
use Rattle.ports.specs.Ports.{limit_of}
use Rattle.ring.specs.declared.RingTable.{RingTable}
use Rattle.ring.proofs.TableRules.{table_limits, few_nodes}
use Rattle.picture.specs.Drawn.{Drawn}

module _ (t : RingTable) (width : ℕ) (d : Drawn t width) where
  pub drawn_nodes : t.nodes ≤ most_nodes
  drawn_nodes = few_nodes t d.rules

  pub few_places : (m : ℕ) → m ≡ limit_of t.ports → m ≤ place_count
  few_places m e = omega (arith, e, (table_limits t d.rules).below)

pub ruleset limits = (drawn_nodes, few_places)
