-- `ring::RingTable::decide` meets its contract. Assumes nothing.
use borrow.Author.Rules.{rules}
use Rattle.basis.proofs.Branch.{branch}
use Rattle.ring.proofs.Deciding.{decide_unmet}
use Rattle.ring.proofs.Demand.{decides}
use Rattle.ring.proofs.RingTable.decide.Goals as goal

pub returns-then-not-meets_rules-clause-answer : goal.returns-then-not-meets_rules-clause-answer
returns-then-not-meets_rules-clause-answer c = search (rules, decide_unmet)

pub returns-then-not-meets_rules-clause-numbers : goal.returns-then-not-meets_rules-clause-numbers
returns-then-not-meets_rules-clause-numbers c = (decides _ _ _ _ (returns-then-not-meets_rules-clause-answer c)).1.0

pub returns-then-not-meets_rules-clause-demand3 : goal.returns-then-not-meets_rules-clause-demand3
returns-then-not-meets_rules-clause-demand3 c = (decides _ _ _ _ (returns-then-not-meets_rules-clause-answer c)).1.1

pub decide_valid-requires : goal.decide_valid-requires
decide_valid-requires c = search (rules, branch)

pub returns-clause-answer : goal.returns-clause-answer
returns-clause-answer c = search rules

pub returns-clause-numbers : goal.returns-clause-numbers
returns-clause-numbers c = (decides _ _ _ _ (returns-clause-answer c)).1.0

pub returns-clause-demand3 : goal.returns-clause-demand3
returns-clause-demand3 c = (decides _ _ _ _ (returns-clause-answer c)).1.1
