-- `roster_calls::close` meets its contract. Assumes nothing.
use borrow.Author.Rules.{rules}
use Rattle.roster_calls.proofs.Standing.{standing}
use Rattle.roster_calls.proofs.closing.close.Goals as goal

pub close_valid-requires : goal.close_valid-requires
close_valid-requires c = search (rules, standing)
