-- `rounds::search::first_joinable` meets its contract. What is found among all pairs is found among those from the row, or the pair, on.
-- Assumes nothing.
use Rattle.rounds.specs.Search.{joinable_in}
use Rattle.rounds.proofs.Seek.{AtRow, AtPair}
use Rattle.rounds.proofs.search.first_joinable.Given as goal

abbrev pub invariant-loop-q : goal.invariant-loop-q
invariant-loop-q l = AtPair (joinable_in l.nodes l.limit l.room) l.limit l.channels l.first l.p l.q

abbrev pub invariant-loop-p : goal.invariant-loop-p
invariant-loop-p l = AtRow (joinable_in l.nodes l.limit l.room) l.limit l.channels l.p
