-- `grid::GridPlan::judge` meets its contract. Assumes nothing.
use borrow.Author.Rules.{rules}
use Rattle.grid.proofs.Calls.{no_spacing, no_start, a_plan}
use Rattle.grid.proofs.GridPlan.judge.Goals as goal

pub returns-then-not-is_spacing : goal.returns-then-not-is_spacing
returns-then-not-is_spacing c = search (rules, no_spacing)

pub returns-then-not-is_start : goal.returns-then-not-is_start
returns-then-not-is_start c = search (rules, no_start)

pub returns : goal.returns
returns c = search (rules, a_plan)
