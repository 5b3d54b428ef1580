-- `planner::run_tidy` meets its contract. Assumes nothing.
use Rattle.planner.proofs.Lines.{tidy_run}
use borrow.Author.Rules.{rules}
use Rattle.planner.proofs.Lines.{refuse_room, tidied, unready_tidy}
use Rattle.planner.proofs.run_tidy.Goals as goal

pub refuse-requires : goal.refuse-requires
refuse-requires c = search (rules, refuse_room)

pub returns-in_default : goal.returns-in_default
returns-in_default c = search (rules, unready_tidy)

pub table_in-table-requires : goal.table_in-table-requires
table_in-table-requires c = search (rules, tidied)

pub decide_tidy_valid-decision-requires : goal.decide_tidy_valid-decision-requires
decide_tidy_valid-decision-requires c = search (rules, tidied)

pub put_tidying-next-requires : goal.put_tidying-next-requires
put_tidying-next-requires c = (search rules, search (rules, tidied))

pub hold-heading-requires : goal.hold-heading-requires
hold-heading-requires c = search (rules, tidied)

pub returns : goal.returns
returns c =
    tidy_run _ _ _ _ _ c.requires _ c.in-Some.is _ c.table_in-table.ensures _ c.decide_tidy_valid-decision.ensures.answer _ _ _ _ _ c.hold-heading.ensures c.put_tidying-next.ensures
