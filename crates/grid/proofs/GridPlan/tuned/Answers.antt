-- `grid::GridPlan::tuned` meets its contract. Assumes nothing.
use borrow.Author.Rules.{rules}
use Rattle.grid.proofs.Calls.{too_high, number_fits, number_on, tuned_point}
use Rattle.grid.proofs.GridPlan.tuned.Goals as goal

pub overflow_add-grid_number : goal.overflow_add-grid_number
overflow_add-grid_number c = search (rules, number_fits)

pub grid_point-requires : goal.grid_point-requires
grid_point-requires c = search (rules, number_on)

pub returns : goal.returns
returns c = search (rules, tuned_point)

pub returns-then-number-gt-HIGHEST_WAVELENGTH : goal.returns-then-number-gt-HIGHEST_WAVELENGTH
returns-then-number-gt-HIGHEST_WAVELENGTH c = too_high c.args.self c.args.number c.requires c.if-number-gt-HIGHEST_WAVELENGTH.true
