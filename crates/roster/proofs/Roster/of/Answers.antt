-- `Roster::of` meets its contract. Assumes nothing.

use borrow.Author.Rules.{rules}
use Rattle.roster.proofs.Building.{building}
use Rattle.roster.proofs.Roster.of.Goals as goal

pub of_valid-requires : goal.of_valid-requires
of_valid-requires c = search (rules, building)

pub returns-then-not-meets_rules-clause-answer : goal.returns-then-not-meets_rules-clause-answer
returns-then-not-meets_rules-clause-answer c = search (rules, building)

pub returns-clause-answer : goal.returns-clause-answer
returns-clause-answer c = search (rules, building)
