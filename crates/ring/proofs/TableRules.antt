-- What the ring rules say of a table that meets them. Assumes nothing.
use Prim.Native.Nat.{◌<◌, ◌≤◌}
use mathlib.Core.Path.{◌≡◌}
use mathlib.Core.Bool.{true}
use native.Mathlib.Omega.{arith}
use Rattle.limits.specs.Limits.{most_nodes}
use Rattle.rules.proofs.Rules.{Rules, Limits, rules_hold, limits_hold}
use Rattle.ring.specs.Table.{RingTable, meets_rules}

module _ (t : RingTable) (meets : meets_rules t ≡ true) where
  -- the rules, one by one
  pub table_rules : Rules t.nodes t.ports t.channels
  table_rules = rules_hold t.nodes t.ports t.channels meets

  -- the numbers that they bound
  pub table_limits : Limits t.nodes t.ports t.channels
  table_limits = limits_hold t.nodes t.ports t.channels table_rules

  -- it has nodes, and at most 64
  pub some_nodes : 0 < t.nodes
  some_nodes = omega (arith, table_limits.three)

  pub few_nodes : t.nodes ≤ most_nodes
  few_nodes = table_limits.most
