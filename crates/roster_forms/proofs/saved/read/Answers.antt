-- `roster_forms::read` meets its contract. Assumes nothing.
use borrow.Author.Rules.{rules}
use Rattle.roster_forms.proofs.Forms.{forming}
use Rattle.roster_forms.proofs.saved.read.Goals as goal

pub of_valid-requires : goal.of_valid-requires
of_valid-requires c = search (rules, forming)
