-- `rules::places::places_hold` meets its contract. Assumes nothing.
use Rattle.std.proofs.Common.{rules}
use borrow.Author.Tests.{not-true}
use Rattle.basis.proofs.Scan.{scan}
use Rattle.rules.proofs.EachPlace.{places_all, places_fail}
use Rattle.rules.proofs.places.places_hold.Goals as goal

pub loop-place-init : goal.loop-place-init
loop-place-init c = search (rules, scan)

pub returns-then-not-slot_fits : goal.returns-then-not-slot_fits
returns-then-not-slot_fits c = search (rules, places_fail, not-true)

pub loop-place-preserved : goal.loop-place-preserved
loop-place-preserved c = search (rules, scan)

pub returns : goal.returns
returns c = search (rules, places_all)
