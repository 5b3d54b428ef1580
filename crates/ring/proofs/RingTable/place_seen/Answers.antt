-- `ring::RingTable::place_seen` meets its contract. Assumes nothing.
use Rattle.ring.proofs.Placing.{places}
use borrow.Author.Rules.{rules}
use Rattle.ring.proofs.RingTable.place_seen.Goals as goal

pub plan_for-planned-requires : goal.plan_for-planned-requires
plan_for-planned-requires c = search (rules, places)

pub returns : goal.returns
returns c = search (rules, places)
