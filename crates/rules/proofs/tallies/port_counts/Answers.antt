-- `rules::tallies::port_counts` meets its contract. Assumes nothing.
use Rattle.std.proofs.Common.{rules, arith}
use Rattle.rules.proofs.InUse.{tallied_room, tallied_next, tallied}
use Rattle.rules.proofs.tallies.port_counts.Goals as goal

pub loop-source-init : goal.loop-source-init
loop-source-init c = search (rules, tallied)

pub overflow_add-sent : goal.overflow_add-sent
overflow_add-sent c = tallied_room _ _ _ _ _ c.loop-source.invariant.0 (omega arith) (omega arith) (search rules)

pub overflow_add-received : goal.overflow_add-received
overflow_add-received c = tallied_room _ _ _ _ _ c.loop-source.invariant.1 (omega arith) (omega arith) (search rules)

pub loop-source-preserved : goal.loop-source-preserved
loop-source-preserved c =
    let before = c.loop-source.invariant in (
      tallied_next _ _ _ _ _ before.0 c.from.ensures (search rules) (omega arith),
      tallied_next _ _ _ _ _ before.1 c.from-in-loop-source.ensures (search rules) (omega arith),
    )

pub returns : goal.returns
returns c = search (rules, tallied)
