-- `grid::grid_point` meets its contract. Assumes nothing.
use Rattle.grid.proofs.Machine.{times_fits, point_fits, point_unsigned, point_is}
use Rattle.grid.proofs.grid_point.Goals as goal

pub overflow_mul-result : goal.overflow_mul-result
overflow_mul-result c = times_fits c.args.spacing c.args.number c.requires

pub overflow_add-result : goal.overflow_add-result
overflow_add-result c = point_fits c.args.spacing c.args.number c.requires

pub overflow_cast-result-2 : goal.overflow_cast-result-2
overflow_cast-result-2 c = point_unsigned c.args.spacing c.args.number c.requires

pub returns : goal.returns
returns c = point_is c.args.spacing c.args.number c.requires
