-- `rules::numbers::numbers_of` meets its contract. Assumes nothing.
use Rattle.std.proofs.Common.{arith}
use Rattle.limits.specs.Limits.{circuit_room}
use Rattle.rules.proofs.Distinct.{beside_start, beside_next, beside_end}
use Rattle.rules.proofs.numbers.numbers_of.Goals as goal

pub loop-i-init : goal.loop-i-init
loop-i-init c = beside_start _ circuit_room

pub loop-i-preserved : goal.loop-i-preserved
loop-i-preserved c = beside_next _ _ _ _ c.loop-i.invariant (omega arith) (omega arith)

pub returns : goal.returns
returns c = beside_end _ _ _ _ c.loop-i.invariant (omega arith)
