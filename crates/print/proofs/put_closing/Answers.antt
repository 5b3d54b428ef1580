-- `print::put_closing` meets its contract. Assumes nothing.
use borrow.Author.Rules.{rules}
use Rattle.print.proofs.Printing.{lines}
use Rattle.print.proofs.put_closing.Goals as goal

pub returns-in-Ok : goal.returns-in-Ok
returns-in-Ok c = search (rules, lines)

pub returns-in-Err : goal.returns-in-Err
returns-in-Err c = search (rules, lines)
