-- `inventory::put_places` meets its contract: what is still to be printed is the places from p on. Assumes nothing.
use borrow.Author.Rules.{rules}
use Rattle.basis.proofs.Arrays.{array_length}
use Rattle.inventory.proofs.Places.{placing}
use Rattle.inventory.proofs.put_places.Goals as goal

pub loop-p-init : goal.loop-p-init
loop-p-init c = search (rules, placing)

pub put_slot-next-requires : goal.put_slot-next-requires
put_slot-next-requires c = search (rules, placing, array_length)

pub loop-p-preserved : goal.loop-p-preserved
loop-p-preserved c = search (rules, placing)

pub overflow_cast-p : goal.overflow_cast-p
overflow_cast-p c = search (rules, placing, array_length)

pub returns : goal.returns
returns c = search (rules, placing)
