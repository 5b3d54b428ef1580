-- `ring_bench::afresh::link_load` meets its contract: the sum is that of the wavelengths below w. Assumes nothing.
use Rattle.ring_bench.proofs.Counted.{Counted}
use Rattle.ring_bench.proofs.afresh.link_load.Given as goal

abbrev pub invariant-loop-w : goal.invariant-loop-w
invariant-loop-w l = Counted l.nodes l.channels l.direction l.link l.w l.sum
