-- `ring_bench::lookups::with_entry` meets its contract. Assumes nothing.
use Rattle.ring_bench.proofs.Rowed.{summed}
use borrow.Author.Rules.{rules}
use Rattle.ring_bench.proofs.lookups.with_entry.Goals as goal

pub overflow_add-ends : goal.overflow_add-ends
overflow_add-ends c = search (rules, summed)

pub overflow_add-result-2 : goal.overflow_add-result-2
overflow_add-result-2 c = search (rules, summed)

pub returns : goal.returns
returns c = search (rules, summed)
