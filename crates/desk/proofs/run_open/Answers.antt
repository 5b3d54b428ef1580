-- `desk::run_open` meets its contract. Assumes nothing.
use borrow.Author.Rules.{rules}
use Rattle.desk.proofs.Running.{running}
use Rattle.desk.proofs.run_open.Goals as goal

pub returns-in_default : goal.returns-in_default
returns-in_default c = search (rules, running)

pub open_in-opened-requires : goal.open_in-opened-requires
open_in-opened-requires c = search (rules, running)

pub returns : goal.returns
returns c = search (rules, running)
