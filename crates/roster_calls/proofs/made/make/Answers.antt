-- `roster_calls::make` meets its contract. Assumes nothing.
use borrow.Author.Rules.{rules}
use Rattle.roster_calls.proofs.Makes.{made_meets}
use Rattle.roster_calls.proofs.made.make.Goals as goal

pub of_valid-requires : goal.of_valid-requires
of_valid-requires c = search (rules, made_meets)
