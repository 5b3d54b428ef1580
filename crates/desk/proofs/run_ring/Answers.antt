-- `desk::run_ring` meets its contract. Assumes nothing.
use borrow.Author.Rules.{rules}
use Rattle.desk.proofs.Running.{running}
use Rattle.desk.proofs.run_ring.Goals as goal

pub hold_accepted-desk-requires : goal.hold_accepted-desk-requires
hold_accepted-desk-requires c = search (rules, running)

pub returns : goal.returns
returns c = search (rules, running)
