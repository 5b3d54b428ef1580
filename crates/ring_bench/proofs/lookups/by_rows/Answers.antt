-- `ring_bench::lookups::by_rows` meets its contract: the roster holds the table. Assumes nothing.
use Rattle.ring_bench.proofs.Rowed.{looked_up}
use borrow.Author.Rules.{rules}
use Rattle.ring_bench.proofs.lookups.by_rows.Goals as goal

pub repeat-requires : goal.repeat-requires
repeat-requires c = search (rules, looked_up)

pub returns : goal.returns
returns c = search (rules, looked_up)
