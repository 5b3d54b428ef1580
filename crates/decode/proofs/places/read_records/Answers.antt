-- `decode::places::read_records` meets its contract: the records of the places before this one are read into the channels, and the next is at `at`. Assumes nothing.
use borrow.Author.Rules.{rules}
use Rattle.std.proofs.lemmas.Result.{err_from_is_err_and}
use Rattle.decode.proofs.Listing.{listing, listing_fault}
use Rattle.decode.proofs.places.read_records.Goals as goal

pub loop-place-init : goal.loop-place-init
loop-place-init c = search (rules, listing)

pub returns-in_err-slot : goal.returns-in_err-slot
returns-in_err-slot c =
    let p = err_from_is_err_and c.from_residual.result c.from_residual.ensures.1 in
    rw (p.1, p.2) (listing_fault _ _ _ _ _ _ c.loop-place.invariant.1 c.loop-place-test.true _ c.in_err-slot.ensures)

pub loop-place-preserved : goal.loop-place-preserved
loop-place-preserved c = search (rules, listing)

pub returns : goal.returns
returns c = search (rules, listing)
