-- `decode::places::read_content` meets its contract. Assumes nothing.
use borrow.Author.Rules.{rules}
use Rattle.decode.proofs.Listing.{place_same}
use Rattle.decode.proofs.places.read_content.Goals as goal

pub returns : goal.returns
returns c = search (rules, place_same)
