-- `inventory::put_load` meets its contract. Assumes nothing.
use borrow.Author.Rules.{rules}
use Rattle.inventory.proofs.Words.{lines}
use Rattle.inventory.proofs.put_load.Goals as goal

pub put_filled-requires : goal.put_filled-requires
put_filled-requires c = search (rules, lines)

pub shape_of-out : goal.shape_of-out
shape_of-out c = search (rules, lines)

pub returns : goal.returns
returns c = search (rules, lines)
