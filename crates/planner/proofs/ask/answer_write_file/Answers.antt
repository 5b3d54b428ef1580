-- `planner::ask::answer_write_file` meets its contract. Assumes nothing.
use borrow.Author.Rules.{rules}
use Rattle.planner.proofs.Lines.{lines}
use Rattle.basis.proofs.Arrays.{lent_counted}
use Rattle.planner.proofs.ask.answer_write_file.Goals as goal

pub slice_bounds-form_of-end : goal.slice_bounds-form_of-end
slice_bounds-form_of-end c = search (rules, lines)

pub form_of-length-requires : goal.form_of-length-requires
form_of-length-requires c = search (rules, lines)

pub slice_bounds-form-end : goal.slice_bounds-form-end
slice_bounds-form-end c = search (rules, lines, lent_counted)

pub slice_bounds-write_file-end : goal.slice_bounds-write_file-end
slice_bounds-write_file-end c = search (rules, lines, lent_counted)

pub write_file-requires : goal.write_file-requires
write_file-requires c = search (rules, lines)

pub overflow_cast-length : goal.overflow_cast-length
overflow_cast-length c = search (rules, lines, lent_counted)

pub put_length-requires : goal.put_length-requires
put_length-requires c = search (rules, lines, lent_counted)

pub shape_of-out-then-write_file : goal.shape_of-out-then-write_file
shape_of-out-then-write_file c = search (rules, lines, lent_counted)

pub returns-then-write_file : goal.returns-then-write_file
returns-then-write_file c = search (rules, lines)

pub put_text-requires : goal.put_text-requires
put_text-requires c = search (rules, lines, lent_counted)

pub shape_of-out : goal.shape_of-out
shape_of-out c = search (rules, lines, lent_counted)

pub returns : goal.returns
returns c = search (rules, lines)
