-- `lasers::put_frequency` meets its contract. Assumes nothing.
use borrow.Author.Rules.{rules}
use Rattle.lasers.proofs.Words.{lines}
use Rattle.lasers.proofs.put_frequency.Goals as goal

pub returns-in-Ok : goal.returns-in-Ok
returns-in-Ok c = search (rules, lines)

pub returns-in-Err : goal.returns-in-Err
returns-in-Err c = search (rules, lines)
