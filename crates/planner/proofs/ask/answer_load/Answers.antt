-- `planner::ask::answer_load` meets its contract. Assumes nothing.
use borrow.Author.Rules.{rules}
use Rattle.planner.proofs.Lines.{lines}
use Rattle.basis.proofs.Arrays.{lent_counted}
use Rattle.planner.proofs.ask.answer_load.Goals as goal

pub slice_bounds-report_valid-end : goal.slice_bounds-report_valid-end
slice_bounds-report_valid-end c = search (rules, lines)

pub report_valid-requires : goal.report_valid-requires
report_valid-requires c = search (rules, lines)

pub overflow_cast-count : goal.overflow_cast-count
overflow_cast-count c = search (rules, lines, lent_counted)

pub overflow_mul-count : goal.overflow_mul-count
overflow_mul-count c = search (rules, lines, lent_counted)

pub slice_bounds-loads-end : goal.slice_bounds-loads-end
slice_bounds-loads-end c = search (rules, lines)

pub slice_bounds-put_loads-end : goal.slice_bounds-put_loads-end
slice_bounds-put_loads-end c = search (rules, lines, lent_counted)

pub put_loads-requires : goal.put_loads-requires
put_loads-requires c = search (rules, lines)

pub shape_of-out : goal.shape_of-out
shape_of-out c = search (rules, lines, lent_counted)

pub returns : goal.returns
returns c = search (rules, lines, lent_counted)
