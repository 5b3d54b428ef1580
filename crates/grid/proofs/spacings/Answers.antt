-- `grid::spacings` meets its contract. Assumes nothing.
use Rattle.grid.proofs.Divided.{quotient_needs, quotient_is}
use Rattle.grid.proofs.spacings.Goals as goal

pub nonzero_div-result : goal.nonzero_div-result
nonzero_div-result c = quotient_needs c.args.difference c.args.spacing c.ranges.difference c.ranges.spacing.fits c.requires

pub returns : goal.returns
returns c = quotient_is c.args.difference c.args.spacing c.ranges.difference c.ranges.spacing.fits c.requires
