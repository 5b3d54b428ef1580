-- `inventory::put_numbers` meets its contract: what is still to be printed is the loads from `load-index` on. Assumes nothing.
use Rattle.inventory.proofs.Loads.{Loading}
use Rattle.inventory.proofs.put_numbers.Given as goal

abbrev pub invariant-loop-load : goal.invariant-loop-load
invariant-loop-load l = Loading l.loads l.initial.out l.at l.out l.next l.load-index
