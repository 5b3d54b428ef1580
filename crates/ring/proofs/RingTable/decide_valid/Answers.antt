-- `ring::RingTable::decide_valid` meets its contract. Assumes nothing.
use borrow.Author.Rules.{rules}
use Rattle.ring.proofs.Deciding.{deciding}
use Rattle.ring.proofs.Demand.{decides_valid}
use Rattle.ring.proofs.RingTable.decide_valid.Goals as goal

pub decide_named-requires : goal.decide_named-requires
decide_named-requires c = search (rules, deciding)

pub returns-in-Ok-clause-answer : goal.returns-in-Ok-clause-answer
returns-in-Ok-clause-answer c = search (rules, deciding)

pub returns-in-Ok-clause-numbers : goal.returns-in-Ok-clause-numbers
returns-in-Ok-clause-numbers c = (decides_valid _ _ _ _ (returns-in-Ok-clause-answer c) c.requires).1.0

pub returns-in-Ok-clause-demand3 : goal.returns-in-Ok-clause-demand3
returns-in-Ok-clause-demand3 c = (decides_valid _ _ _ _ (returns-in-Ok-clause-answer c) c.requires).1.1

pub returns-in-Err-clause-answer : goal.returns-in-Err-clause-answer
returns-in-Err-clause-answer c = search (rules, deciding)

pub returns-in-Err-clause-numbers : goal.returns-in-Err-clause-numbers
returns-in-Err-clause-numbers c = (decides_valid _ _ _ _ (returns-in-Err-clause-answer c) c.requires).1.0

pub returns-in-Err-clause-demand3 : goal.returns-in-Err-clause-demand3
returns-in-Err-clause-demand3 c = (decides_valid _ _ _ _ (returns-in-Err-clause-answer c) c.requires).1.1
