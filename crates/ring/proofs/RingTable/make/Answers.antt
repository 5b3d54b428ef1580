-- `ring::RingTable::make` meets its contract. Assumes nothing.
use borrow.Author.Rules.{rules}
use Rattle.ring.proofs.Making.{making}
use Rattle.ring.proofs.Numbers.{makes}
use Rattle.ring.proofs.RingTable.make.Goals as goal

pub returns-then-not-node_count_holds-clause-answer : goal.returns-then-not-node_count_holds-clause-answer
returns-then-not-node_count_holds-clause-answer c = search (rules, making)

pub returns-then-not-node_count_holds-clause-numbers : goal.returns-then-not-node_count_holds-clause-numbers
returns-then-not-node_count_holds-clause-numbers c = (makes _ _ _ (returns-then-not-node_count_holds-clause-answer c)).1

pub port_fields-fields-requires : goal.port_fields-fields-requires
port_fields-fields-requires c = search (rules, making)

pub returns-in-Ok-clause-answer : goal.returns-in-Ok-clause-answer
returns-in-Ok-clause-answer c = search (rules, making)

pub returns-in-Ok-clause-numbers : goal.returns-in-Ok-clause-numbers
returns-in-Ok-clause-numbers c = (makes _ _ _ (returns-in-Ok-clause-answer c)).1

pub returns-in-Err-clause-answer : goal.returns-in-Err-clause-answer
returns-in-Err-clause-answer c = search (rules, making)

pub returns-in-Err-clause-numbers : goal.returns-in-Err-clause-numbers
returns-in-Err-clause-numbers c = (makes _ _ _ (returns-in-Err-clause-answer c)).1
