-- `ring_bench::lookups::with_rows` meets its contract: the rows of the nodes up to `node` are summed. Assumes nothing.
use Rattle.roster.specs.Roster.{entries, places_of}
use Rattle.ring_bench.proofs.Rowed.{Rowed}
use Rattle.ring_bench.proofs.lookups.with_rows.Given as goal

abbrev pub invariant-loop-node : goal.invariant-loop-node
invariant-loop-node l = Rowed (entries (places_of l.keys l.rests l.count)) l.nodes l.sum l.last l.node
