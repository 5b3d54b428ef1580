-- `print::put_moves` meets its contract. Assumes nothing.
use borrow.Author.Rules.{rules}
use Rattle.print.proofs.Printing.{moving}
use Rattle.print.proofs.put_moves.Goals as goal

pub returns-then-count-eq2 : goal.returns-then-count-eq2
returns-then-count-eq2 c = record { put = search moving; short = search rules }

pub returns : goal.returns
returns c = record { put = search moving; short = search rules }
