-- `ring_bench::afresh::link_load` meets its contract: the sum is that of the wavelengths below w. Assumes nothing.
use Rattle.ring_bench.proofs.Counted.{counting}
use borrow.Author.Rules.{rules}
use Rattle.ring_bench.proofs.afresh.link_load.Goals as goal

pub loop-w-init : goal.loop-w-init
loop-w-init c = search (rules, counting)

pub overflow_add-sum : goal.overflow_add-sum
overflow_add-sum c = search (rules, counting)

pub loop-w-preserved : goal.loop-w-preserved
loop-w-preserved c = search (rules, counting)
