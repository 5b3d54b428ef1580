-- `ring::RingTable::decide_named` meets its contract. Assumes nothing.
use Rattle.ring.proofs.Placing.{places}
use Rattle.ring.proofs.Deciding.{deciding}
use borrow.Author.Rules.{rules}
use Rattle.ring.proofs.RingTable.decide_named.Goals as goal

pub survey_places-seen-requires : goal.survey_places-seen-requires
survey_places-seen-requires c = search (rules, places)

pub place_seen-requires : goal.place_seen-requires
place_seen-requires c = search (rules, deciding)

pub returns-in-Ok : goal.returns-in-Ok
returns-in-Ok c = search (rules, deciding)

pub returns-in-Err : goal.returns-in-Err
returns-in-Err c = search (rules, deciding)
