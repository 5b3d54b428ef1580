-- `lit_words::places_of` meets its contract. Assumes nothing.
use Rattle.lit_words.proofs.Ways.{clockwise_places, counterclockwise_places}
use borrow.Author.Rules.{rules}
use Rattle.lit_words.proofs.places_of.Goals as goal

pub returns-in-Clockwise : goal.returns-in-Clockwise
returns-in-Clockwise c = search (rules, clockwise_places)

pub returns-in-Counterclockwise : goal.returns-in-Counterclockwise
returns-in-Counterclockwise c = search (rules, counterclockwise_places)
