-- `saved_forms::form_of` meets its contract. Assumes nothing.
use borrow.Author.Rules.{rules}
use Rattle.saved_forms.proofs.Forms.{forms}
use Rattle.saved_forms.proofs.form_of.Goals as goal

pub write_valid-requires : goal.write_valid-requires
write_valid-requires c = search (rules, forms)

pub returns-in-Ok : goal.returns-in-Ok
returns-in-Ok c = search (rules, forms)

pub returns-in-Err : goal.returns-in-Err
returns-in-Err c = search (rules, forms)
