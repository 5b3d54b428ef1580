-- `inventory::put_numbers` meets its contract: what is still to be printed is the loads from `load-index` on. Assumes nothing.
use borrow.Author.Rules.{rules}
use Rattle.inventory.proofs.Loads.{loading}
use Rattle.inventory.proofs.put_numbers.Goals as goal

pub loop-load-init : goal.loop-load-init
loop-load-init c = search (rules, loading)

pub put_load-next-requires : goal.put_load-next-requires
put_load-next-requires c = search (rules, loading)

pub loop-load-preserved : goal.loop-load-preserved
loop-load-preserved c = search (rules, loading)

pub put_byte-requires : goal.put_byte-requires
put_byte-requires c = search (rules, loading)

pub returns : goal.returns
returns c = search (rules, loading)
