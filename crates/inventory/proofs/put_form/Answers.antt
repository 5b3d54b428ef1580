-- `inventory::put_form` meets its contract. Assumes nothing.
use borrow.Author.Rules.{rules}
use Rattle.inventory.proofs.Words.{form}
use Rattle.inventory.proofs.put_form.Goals as goal

pub overflow_cast-form : goal.overflow_cast-form
overflow_cast-form c = search (rules, form)

pub put_filled-next-requires : goal.put_filled-next-requires
put_filled-next-requires c = search (rules, form)

pub put_hex-next-requires : goal.put_hex-next-requires
put_hex-next-requires c = search (rules, form)

pub put_byte-requires : goal.put_byte-requires
put_byte-requires c = search (rules, form)

pub shape_of-out : goal.shape_of-out
shape_of-out c = search (rules, form)

pub returns : goal.returns
returns c = search (rules, form)
