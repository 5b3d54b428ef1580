-- `planner::run_from` meets its contract. Assumes nothing.
use borrow.Author.Rules.{rules}
use Rattle.planner.proofs.Lines.{refuse_room, held_entries, unready_from, from_looked}
use Rattle.planner.proofs.run_from.Goals as goal

pub refuse-requires : goal.refuse-requires
refuse-requires c = search (rules, refuse_room)

pub returns-in_default : goal.returns-in_default
returns-in_default c = search (rules, unready_from)

pub put_from-next-requires : goal.put_from-next-requires
put_from-next-requires c = (search rules, search (rules, held_entries))

pub returns : goal.returns
returns c = search (rules, from_looked)
