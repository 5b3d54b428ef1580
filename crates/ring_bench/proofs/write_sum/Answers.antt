-- `ring_bench::write_sum` meets its contract. Assumes nothing.
use Rattle.form.specs.Bytes.{high_first}
use borrow.Author.Rules.{rules}
use Rattle.ring_bench.proofs.write_sum.Goals as goal

pub put_number-requires : goal.put_number-requires
unfolding high_first
put_number-requires c = search rules
