-- `tidy_lines::put_tidy_line` meets its contract. Assumes nothing.
use borrow.Author.Rules.{rules}
use Rattle.tidy_lines.proofs.Words.{lines}
use Rattle.tidy_lines.proofs.put_tidy_line.Goals as goal

pub returns-in-Ok : goal.returns-in-Ok
returns-in-Ok c = search (rules, lines)

pub returns-in-Err : goal.returns-in-Err
returns-in-Err c = search (rules, lines)
