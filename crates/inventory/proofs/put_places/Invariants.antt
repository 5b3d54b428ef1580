-- `inventory::put_places` meets its contract: what is still to be printed is the places from p on. Assumes nothing.
use Rattle.inventory.proofs.Places.{Placing}
use Rattle.inventory.proofs.put_places.Given as goal

abbrev pub invariant-loop-p : goal.invariant-loop-p
invariant-loop-p l = Placing l.fn.channels l.initial.out l.at l.out l.next l.p
