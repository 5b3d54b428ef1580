-- `inventory::put_circuits` meets its contract. Assumes nothing.
use borrow.Author.Rules.{rules}
use Rattle.inventory.proofs.Places.{all_circuits}
use Rattle.inventory.proofs.put_circuits.Goals as goal

pub overflow_cast-listed : goal.overflow_cast-listed
overflow_cast-listed c = search (rules, all_circuits)

pub returns : goal.returns
returns c = search (rules, all_circuits)
