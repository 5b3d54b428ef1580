-- `grid::GridPlan::carried` meets its contract. Assumes nothing.
use borrow.Author.Rules.{rules}
use Rattle.grid.proofs.Divided.{left_over, start_needs, steps_need, below_plan, above_plan, in_plan}
use Rattle.grid.proofs.GridPlan.carried.Goals as goal

pub returns-then-not-is_whole : goal.returns-then-not-is_whole
returns-then-not-is_whole c = search (rules, left_over)

pub overflow_cast-wavelength : goal.overflow_cast-wavelength
overflow_cast-wavelength c = search (rules, start_needs)

pub overflow_sub-wavelength : goal.overflow_sub-wavelength
overflow_sub-wavelength c = search (rules, steps_need)

pub returns-then-wavelength-lt0 : goal.returns-then-wavelength-lt0
returns-then-wavelength-lt0 c = search (rules, below_plan)

pub returns-then-wavelength : goal.returns-then-wavelength
returns-then-wavelength c = search (rules, above_plan)

pub returns : goal.returns
returns c = search (rules, in_plan)
