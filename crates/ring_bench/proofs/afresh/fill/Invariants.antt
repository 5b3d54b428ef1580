-- `ring_bench::afresh::fill` meets its contract: the loads of the links up to `link` are written. Assumes nothing.
use Rattle.lightpath.specs.declared.Direction.TheVariants.{Clockwise as clockwise, Counterclockwise as counterclockwise}
use Rattle.load.specs.Load.{link_load}
use Rattle.load.proofs.Filled.{Filled}
use Rattle.ring_bench.proofs.afresh.fill.Given as goal

abbrev pub invariant-loop-link : goal.invariant-loop-link
invariant-loop-link l = Filled (λ k. link_load l.nodes l.channels clockwise k) (λ k. link_load l.nodes l.channels counterclockwise k) l.nodes l.initial.out l.link l.out
