-- `ring::RingTable::close` meets its contract. Assumes nothing.
use borrow.Author.Rules.{rules}
use Rattle.basis.proofs.Branch.{branch}
use Rattle.ring.proofs.Closing.{close_unmet}
use Rattle.ring.proofs.Numbers.{closes}
use Rattle.ring.proofs.RingTable.close.Goals as goal

pub returns-then-not-meets_rules-clause-answer : goal.returns-then-not-meets_rules-clause-answer
returns-then-not-meets_rules-clause-answer c = search (rules, close_unmet)

pub returns-then-not-meets_rules-clause-numbers : goal.returns-then-not-meets_rules-clause-numbers
returns-then-not-meets_rules-clause-numbers c = (closes _ _ _ (returns-then-not-meets_rules-clause-answer c)).1

pub close_valid-requires : goal.close_valid-requires
close_valid-requires c = search (rules, branch)
