-- `planner::ask::answer_write` meets its contract. Assumes nothing.
use borrow.Author.Rules.{rules}
use Rattle.planner.proofs.Lines.{lines}
use Rattle.basis.proofs.Arrays.{lent_counted}
use Rattle.planner.proofs.ask.answer_write.Goals as goal

pub slice_bounds-form_of-end : goal.slice_bounds-form_of-end
slice_bounds-form_of-end c = search (rules, lines)

pub form_of-length-requires : goal.form_of-length-requires
form_of-length-requires c = search (rules, lines)

pub slice_bounds-form-end : goal.slice_bounds-form-end
slice_bounds-form-end c = search (rules, lines, lent_counted)

pub slice_bounds-put_form-end : goal.slice_bounds-put_form-end
slice_bounds-put_form-end c = search (rules, lines, lent_counted)

pub put_form-requires : goal.put_form-requires
put_form-requires c = search (rules, lines, lent_counted)

pub shape_of-out : goal.shape_of-out
shape_of-out c = search (rules, lines, lent_counted)

pub returns : goal.returns
returns c = search (rules, lines)
