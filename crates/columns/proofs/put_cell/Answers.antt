-- `columns::put_cell` meets its contract. Assumes nothing.
use borrow.Author.Rules.{rules}
use Rattle.buffer.proofs.Appending.{appending}
use Rattle.columns.proofs.put_cell.Goals as goal

pub returns-in-Err : goal.returns-in-Err
returns-in-Err c = search (rules, appending)
