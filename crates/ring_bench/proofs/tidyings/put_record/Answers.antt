-- `ring_bench::tidyings::put_record` meets its contract. Assumes nothing.
use lib.ListN.{length-set}
use Rattle.form.specs.Bytes.{high_first}
use borrow.Author.Rules.{rules}
use Rattle.ring_bench.proofs.tidyings.put_record.Goals as goal

pub put_number-next-requires : goal.put_number-next-requires
unfolding high_first
put_number-next-requires c = search rules

pub bounds-out-next : goal.bounds-out-next
unfolding high_first
bounds-out-next c = search rules

pub overflow_add-out : goal.overflow_add-out
unfolding high_first
overflow_add-out c = search rules

pub bounds-out-next-2 : goal.bounds-out-next-2
unfolding high_first
bounds-out-next-2 c = simp length-set (search rules)

pub overflow_add-result : goal.overflow_add-result
unfolding high_first
overflow_add-result c = search rules

pub returns : goal.returns
unfolding high_first
returns c = search rules
