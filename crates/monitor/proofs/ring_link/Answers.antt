-- `monitor::ring_link` meets its contract. Assumes nothing.
use Rattle.monitor.proofs.Forms.{accepting}
use borrow.Author.Rules.{rules}
use Rattle.monitor.proofs.ring_link.Goals as goal

pub link_of-requires : goal.link_of-requires
link_of-requires c = search (rules, accepting)

pub returns-in-Ok : goal.returns-in-Ok
returns-in-Ok c = search (rules, accepting)

pub returns-in-Err : goal.returns-in-Err
returns-in-Err c = search (rules, accepting)
