-- `roster_open::place_seen` meets its contract. Assumes nothing.
use borrow.Author.Rules.{rules}
use Rattle.roster_open.proofs.Calls.{placed}
use Rattle.roster_open.proofs.open.place_seen.Goals as goal

pub plan_in-planned-requires : goal.plan_in-planned-requires
plan_in-planned-requires c = search (rules, placed)

pub replace_all-requires : goal.replace_all-requires
replace_all-requires c = search (rules, placed)

pub file-requires : goal.file-requires
file-requires c = search (rules, placed)

pub overflow_add-filed : goal.overflow_add-filed
overflow_add-filed c = search (rules, placed)

pub returns : goal.returns
returns c = search (rules, placed)
