-- `planner::run_question` meets its contract. Assumes nothing.
use borrow.Author.Rules.{rules}
use Rattle.planner.proofs.Lines.{refuse_room, keys_within, rests_within, asks, unready_question, question_run}
use Rattle.planner.proofs.run_question.Goals as goal

pub refuse-requires : goal.refuse-requires
refuse-requires c = search (rules, refuse_room)

pub returns-in_default : goal.returns-in_default
returns-in_default c = search (rules, unready_question)

pub table_in-table-requires : goal.table_in-table-requires
table_in-table-requires c = search (rules, keys_within, rests_within)

pub answer-next-requires : goal.answer-next-requires
answer-next-requires c = search (rules, asks)

pub returns : goal.returns
returns c = search (rules, question_run)
