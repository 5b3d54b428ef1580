-- `grid::from_anchor` meets its contract. Assumes nothing.
use Rattle.grid.proofs.Machine.{difference_fits, difference_is}
use Rattle.grid.proofs.from_anchor.Goals as goal

pub overflow_sub-result : goal.overflow_sub-result
overflow_sub-result c = difference_fits c.args.frequency c.ranges.frequency.fits

pub returns : goal.returns
returns c = difference_is c.args.frequency c.ranges.frequency.fits
