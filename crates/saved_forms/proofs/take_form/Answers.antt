-- `saved_forms::take_form` meets its contract. Assumes nothing.
use borrow.Author.Rules.{rules}
use Rattle.form.proofs.Laws.{accepted_meets}
use Rattle.saved_forms.proofs.Forms.{reading}
use Rattle.saved_forms.proofs.take_form.Goals as goal

pub hold_accepted-desk-requires : goal.hold_accepted-desk-requires
hold_accepted-desk-requires c = search (rules, accepted_meets, reading)

pub returns : goal.returns
returns c = search (rules, reading)
