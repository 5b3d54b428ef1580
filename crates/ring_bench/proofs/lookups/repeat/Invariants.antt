-- `ring_bench::lookups::repeat` meets its contract: all nodes are looked up i times. Assumes nothing.
use Rattle.roster.specs.Roster.{entries, places_of}
use Rattle.ring_bench.proofs.Rowed.{Repeated}
use Rattle.ring_bench.proofs.lookups.repeat.Given as goal

abbrev pub invariant-loop : goal.invariant-loop
invariant-loop l = Repeated (entries (places_of l.keys l.rests l.heading.count)) l.heading.nodes l.count l.sum l.counter
