-- `form::longest_form` meets its contract. Assumes nothing.
use Rattle.form.proofs.Length.{form_most}
use Rattle.form.proofs.longest_form.Goals as goal

pub returns-clause-room : goal.returns-clause-room
returns-clause-room c = form_most
