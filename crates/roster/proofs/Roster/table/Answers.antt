-- `Roster::table` meets its contract. Assumes nothing.
use Rattle.roster.proofs.Building.{table_back}
use borrow.Author.Rules.{rules}
use Rattle.roster.proofs.Building.{tabling}
use Rattle.roster.proofs.Roster.table.Goals as goal

pub table_valid-requires : goal.table_valid-requires
table_valid-requires c = search (rules, tabling)

pub returns-then-not-stands-clause-answer : goal.returns-then-not-stands-clause-answer
returns-then-not-stands-clause-answer c = search (rules, tabling)

pub returns-clause-answer : goal.returns-clause-answer
returns-clause-answer c = search (rules, tabling)

pub returns-clause-back : goal.returns-clause-back
returns-clause-back c = λ k. table_back _ _ c.table_valid.ensures k
