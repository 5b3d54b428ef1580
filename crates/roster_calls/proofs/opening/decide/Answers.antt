-- `roster_calls::decide` meets its contract. Assumes nothing.
use borrow.Author.Rules.{rules}
use Rattle.roster_calls.proofs.Standing.{standing}
use Rattle.roster_calls.proofs.opening.decide.Goals as goal

pub decide_valid-requires : goal.decide_valid-requires
decide_valid-requires c = search (rules, standing)
