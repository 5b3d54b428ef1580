-- `inventory::put_loads` meets its contract. Assumes nothing.
use borrow.Author.Rules.{rules}
use Rattle.inventory.proofs.Loads.{load}
use Rattle.inventory.proofs.put_loads.Goals as goal

pub put_text-next-requires : goal.put_text-next-requires
put_text-next-requires c = search (rules, load)

pub put_numbers-requires : goal.put_numbers-requires
put_numbers-requires c = search (rules, load)

pub shape_of-out : goal.shape_of-out
shape_of-out c = search (rules, load)

pub returns : goal.returns
returns c = search (rules, load)
