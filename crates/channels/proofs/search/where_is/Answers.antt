-- `channels::search::where_is` meets its contract. Assumes nothing.
use borrow.Author.Rules.{rules}
use Rattle.std.proofs.lemmas.Iterator.{YieldsList-from_slice}
use Rattle.std.proofs.lemmas.Iterator.Search.{position_from_yields_List}
use Rattle.slots.specs.Slot.{holds}
use Rattle.channels.proofs.Found.{found_at}
use Rattle.channels.proofs.search.where_is.Goals as goal

pub returns : goal.returns
returns c =
    let found = position_from_yields_List (λ ch. holds c.args.number ch.slot) _ _ _ c.position.ensures.ran (YieldsList-from_slice c.args.channels cc) (λ x b q k. search rules) in
    rw found (found_at c.args.channels c.args.number (search rules))
