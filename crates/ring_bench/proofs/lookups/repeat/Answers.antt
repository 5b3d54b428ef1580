-- `ring_bench::lookups::repeat` meets its contract: all nodes are looked up i times. Assumes nothing.
use Rattle.ring_bench.proofs.Rowed.{repeated}
use borrow.Author.Rules.{rules}
use Rattle.ring_bench.proofs.lookups.repeat.Goals as goal

pub loop-init : goal.loop-init
loop-init c = search (rules, repeated)

pub loop-preserved : goal.loop-preserved
loop-preserved c = search (rules, repeated)

pub returns : goal.returns
returns c = search (rules, repeated)
