-- `ring::RingTable::tidy_rounds` meets its contract. Assumes nothing.
use Rattle.ring.proofs.Rounds.{tidying}
use borrow.Author.Rules.{rules}
use Rattle.ring.proofs.RingTable.tidy_rounds.Goals as goal

pub tidy-tidied-requires : goal.tidy-tidied-requires
tidy-tidied-requires c = search (rules, tidying)

pub overflow_cast-result : goal.overflow_cast-result
overflow_cast-result c = search (rules, tidying)

pub returns : goal.returns
returns c = search (rules, tidying)
