-- `ring::RingTable::close_valid` meets its contract. Assumes nothing.
use borrow.Author.Rules.{rules}
use Rattle.ring.proofs.Closing.{close_missed, close_found}
use Rattle.ring.proofs.Numbers.{closes}
use Rattle.ring.proofs.RingTable.close_valid.Goals as goal

pub returns-in_default-clause-answer : goal.returns-in_default-clause-answer
returns-in_default-clause-answer c = search (rules, close_missed)

pub returns-in_default-clause-numbers : goal.returns-in_default-clause-numbers
returns-in_default-clause-numbers c = (closes _ _ _ (returns-in_default-clause-answer c)).1

pub returns-clause-answer : goal.returns-clause-answer
returns-clause-answer c = search (rules, close_found)

pub returns-clause-numbers : goal.returns-clause-numbers
returns-clause-numbers c = (closes _ _ _ (returns-clause-answer c)).1
