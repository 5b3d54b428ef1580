-- `ring::RingTable::decide_tidy` meets its contract. Assumes nothing.
use borrow.Author.Rules.{rules}
use Rattle.basis.proofs.Branch.{branch}
use Rattle.ring.proofs.Rounds.{tidies_all, tidy_unmet}
use Rattle.ring.proofs.RingTable.decide_tidy.Goals as goal

pub returns-then-not-meets_rules-clause-answer : goal.returns-then-not-meets_rules-clause-answer
returns-then-not-meets_rules-clause-answer c = search (rules, tidy_unmet)

pub returns-then-not-meets_rules-clause-numbers : goal.returns-then-not-meets_rules-clause-numbers
returns-then-not-meets_rules-clause-numbers c = (tidies_all _ _ _ (returns-then-not-meets_rules-clause-answer c)).1.0

pub returns-then-not-meets_rules-clause-tidies : goal.returns-then-not-meets_rules-clause-tidies
returns-then-not-meets_rules-clause-tidies c = (tidies_all _ _ _ (returns-then-not-meets_rules-clause-answer c)).1.1

pub decide_tidy_valid-requires : goal.decide_tidy_valid-requires
decide_tidy_valid-requires c = search (rules, branch)

pub returns-clause-answer : goal.returns-clause-answer
returns-clause-answer c = search rules

pub returns-clause-numbers : goal.returns-clause-numbers
returns-clause-numbers c = (tidies_all _ _ _ (returns-clause-answer c)).1.0

pub returns-clause-tidies : goal.returns-clause-tidies
returns-clause-tidies c = (tidies_all _ _ _ (returns-clause-answer c)).1.1
