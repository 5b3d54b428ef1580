-- `words::read_field` meets its contract. Assumes nothing.
use borrow.Author.Rules.{rules}
use Rattle.words.proofs.Fields.{word_number}
use Rattle.words.proofs.read_field.Goals as goal

pub returns : goal.returns
returns c = search (rules, word_number)
