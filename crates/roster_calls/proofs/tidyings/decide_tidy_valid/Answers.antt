-- `roster_calls::decide_tidy_valid` meets its contract. Assumes nothing.
use Rattle.roster_calls.proofs.Tidies.{tidies_valid}
use borrow.Author.Rules.{rules}
use Rattle.roster_calls.proofs.Tidies.{tidying}
use Rattle.roster_calls.proofs.tidyings.decide_tidy_valid.Goals as goal

pub table_valid-table-requires : goal.table_valid-table-requires
table_valid-table-requires c = search (rules, tidying)

pub decide_tidy_valid-decision-requires : goal.decide_tidy_valid-decision-requires
decide_tidy_valid-decision-requires c = search (rules, tidying)

pub of_valid-requires : goal.of_valid-requires
of_valid-requires c = search (rules, tidying)

pub returns-clause-numbers : goal.returns-clause-numbers
returns-clause-numbers c = (tidies_valid c.args.roster c.args.lent c.requires _ c.table_valid-table.ensures _ c.decide_tidy_valid-decision.ensures.answer _ c.of_valid.ensures.roster c.of_valid.ensures.back).1.0
