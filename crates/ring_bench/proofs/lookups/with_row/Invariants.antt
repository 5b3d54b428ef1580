-- `ring_bench::lookups::with_row` meets its contract: what is still to be summed is the entries that the iterator has left. Assumes nothing.
use Rattle.ring_bench.proofs.Rowed.{Summing}
use Rattle.ring_bench.proofs.lookups.with_row.Given as goal

abbrev pub invariant-loop-key : goal.invariant-loop-key
invariant-loop-key l = Summing l.keys l.rests l.sum l.last l.key-iterator.a.rest.now l.key-iterator.b.rest.now
