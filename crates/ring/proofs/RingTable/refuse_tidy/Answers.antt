-- `ring::RingTable::refuse_tidy` meets its contract. Assumes nothing.
use Rattle.ring.proofs.Rounds.{tidying}
use borrow.Author.Rules.{rules}
use Rattle.ring.proofs.RingTable.refuse_tidy.Goals as goal

pub returns : goal.returns
returns c = search (rules, tidying)
