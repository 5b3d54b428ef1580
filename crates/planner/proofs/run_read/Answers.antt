-- `planner::run_read` meets its contract. Assumes nothing.
use borrow.Author.Rules.{rules}
use Rattle.basis.proofs.Arrays.{lent_counted}
use Rattle.saved_forms.proofs.Forms.{forms}
use Rattle.planner.proofs.Lines.{refuse_room, word_taken, word_bad}
use Rattle.planner.proofs.run_read.Goals as goal

pub slice_bounds-form-end : goal.slice_bounds-form-end
slice_bounds-form-end c = search (rules, forms)

pub slice_bounds-take_form-end : goal.slice_bounds-take_form-end
slice_bounds-take_form-end c = search (rules, forms, lent_counted)

pub returns-in-Some : goal.returns-in-Some
returns-in-Some c = search (rules, word_taken)

pub refuse-requires : goal.refuse-requires
refuse-requires c = search (rules, refuse_room)

pub returns-in-None : goal.returns-in-None
returns-in-None c = search (rules, word_bad)
