-- `picture::put_some` meets its contract: so many rows are put. Assumes nothing.
use borrow.Author.Rules.{rules}
use Rattle.buffer.proofs.Appending.{appending}
use Rattle.picture.proofs.put_some.Goals as goal

pub loop-row-init : goal.loop-row-init
loop-row-init c = search (rules, appending)

pub loop-row-preserved : goal.loop-row-preserved
loop-row-preserved c = search (rules, appending)

pub returns : goal.returns
returns c = search (rules, appending)
