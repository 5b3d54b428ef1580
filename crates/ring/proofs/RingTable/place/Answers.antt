-- `ring::RingTable::place` meets its contract. Assumes nothing.
use Rattle.ring.proofs.Placing.{places}
use borrow.Author.Rules.{rules}
use Rattle.ring.proofs.RingTable.place.Goals as goal

pub survey_places-seen-requires : goal.survey_places-seen-requires
survey_places-seen-requires c = search (rules, places)
