-- `row_lines::put_first` meets its contract. Assumes nothing.
use borrow.Author.Rules.{rules}
use Rattle.row_lines.proofs.Words.{first_words}
use Rattle.row_lines.proofs.put_first.Goals as goal

pub returns-in-From : goal.returns-in-From
returns-in-From c = search (rules, first_words)

pub returns-in-To : goal.returns-in-To
returns-in-To c = search (rules, first_words)
