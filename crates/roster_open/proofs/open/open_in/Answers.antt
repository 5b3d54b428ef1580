-- `roster_open::open_in` meets its contract. Assumes nothing.
use borrow.Author.Rules.{rules}
use Rattle.roster_open.proofs.Calls.{opening}
use Rattle.roster_open.proofs.open.open_in.Goals as goal

pub open_named-requires : goal.open_named-requires
open_named-requires c = search (rules, opening)

pub returns-in-Ok : goal.returns-in-Ok
returns-in-Ok c = search (rules, opening)

pub returns-in-Err : goal.returns-in-Err
returns-in-Err c = search (rules, opening)
