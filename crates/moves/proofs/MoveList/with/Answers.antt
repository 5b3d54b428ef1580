-- `moves::MoveList::with` meets its contract. Assumes nothing.
use mathlib.Core.Path.{◌∙◌}
use native.Mathlib.Omega.{arith}
use borrow.Author.Rules.{rules}
use Rattle.moves.specs.Records.{listed}
use Rattle.moves.proofs.Listed.{length_listed}
use Rattle.moves.proofs.Appending.{append_put, listed_first}
use Rattle.moves.proofs.MoveList.with.Goals as goal

pub returns : goal.returns
returns c =
    append_put c.args.self (listed c.args.moves) _ _ (c.copy_from_slice.ensures.after ∙ listed_first c.args.moves _ (search rules))
    (omega (arith, length_listed c.args.moves)) (omega (arith, length_listed c.args.moves))
