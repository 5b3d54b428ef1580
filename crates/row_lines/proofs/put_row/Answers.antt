-- `row_lines::put_row` meets its contract. Assumes nothing.
use borrow.Author.Rules.{rules}
use Rattle.row_lines.proofs.Words.{row_put}
use Rattle.row_lines.proofs.put_row.Goals as goal

pub returns : goal.returns
returns c = search (rules, row_put)
