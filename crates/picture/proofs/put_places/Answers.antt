-- `picture::put_places` meets its contract: the rows of the places below are put. Assumes nothing.
use borrow.Author.Rules.{rules}
use Rattle.buffer.proofs.Appending.{appending}
use Rattle.picture.proofs.Limits.{limits}
use Rattle.picture.proofs.put_places.Goals as goal

pub loop-place-init : goal.loop-place-init
loop-place-init c = search (rules, appending, limits)

pub loop-place-preserved : goal.loop-place-preserved
loop-place-preserved c = search (rules, appending, limits)

pub returns : goal.returns
returns c = search (rules, appending, limits)
