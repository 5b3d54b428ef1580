-- `print::put_move` meets its contract. Assumes nothing.
use borrow.Author.Rules.{rules}
use Rattle.print.proofs.Printing.{lines}
use Rattle.print.proofs.put_move.Goals as goal

pub returns : goal.returns
returns c = search (rules, lines)
