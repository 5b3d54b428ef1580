-- `ringplan::main` meets its contract. Assumes nothing.
use mathlib.Core.Path.{refl}
use borrow.Author.Rules.{rules}
use Rattle.ringplan.proofs.main.Goals as goal

pub run-requires : goal.run-requires
run-requires c = (refl, refl, search rules, search rules)
