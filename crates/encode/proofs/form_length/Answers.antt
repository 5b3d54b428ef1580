-- `encode::form_length` meets its contract. Assumes nothing.
use borrow.Author.Rules.{rules}
use Rattle.encode.proofs.Lengths.{form_long}
use Rattle.encode.proofs.form_length.Goals as goal

pub returns : goal.returns
returns c = search (rules, form_long)
