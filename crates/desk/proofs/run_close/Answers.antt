-- `desk::run_close` meets its contract. Assumes nothing.
use borrow.Author.Rules.{rules}
use Rattle.desk.proofs.Running.{running}
use Rattle.desk.proofs.run_close.Goals as goal

pub returns-in_default : goal.returns-in_default
returns-in_default c = search (rules, running)

pub close_in-closed-requires : goal.close_in-closed-requires
close_in-closed-requires c = search (rules, running)

pub returns : goal.returns
returns c = search (rules, running)
