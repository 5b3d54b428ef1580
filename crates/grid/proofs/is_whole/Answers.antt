-- `grid::is_whole` meets its contract. Assumes nothing.
use Rattle.grid.proofs.Divided.{quotient_needs, rest_is}
use Rattle.grid.proofs.is_whole.Goals as goal

pub nonzero_rem-result : goal.nonzero_rem-result
nonzero_rem-result c = quotient_needs c.args.difference c.args.spacing c.ranges.difference c.ranges.spacing.fits c.requires

pub returns : goal.returns
returns c = rest_is c.args.difference c.args.spacing c.ranges.difference c.ranges.spacing.fits c.requires
