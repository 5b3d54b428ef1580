-- `ring_bench::afresh::fill` meets its contract: the loads of the links up to `link` are written. Assumes nothing.
use Rattle.load.proofs.Filled.{filling}
use Rattle.ring_bench.proofs.Counted.{loads_written}
use borrow.Author.Rules.{rules}
use Rattle.ring_bench.proofs.afresh.fill.Goals as goal

pub loop-link-init : goal.loop-link-init
loop-link-init c = search (rules, filling)

pub loop-link-preserved : goal.loop-link-preserved
loop-link-preserved c = search (rules, filling)

pub returns : goal.returns
returns c = search (rules, filling, loads_written)
