-- `rounds::search::next_round` meets its contract. Assumes nothing.
use Rattle.std.proofs.Common.{rules}
use Rattle.rounds.proofs.Finding.{finding}
use Rattle.rounds.proofs.search.next_round.Goals as goal

pub first_joinable-requires : goal.first_joinable-requires
first_joinable-requires c = search (rules, finding)

pub returns : goal.returns
returns c = search (rules, finding)
