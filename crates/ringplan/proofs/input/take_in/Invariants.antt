-- `ringplan::input::take_in` meets its contract. The loop's invariant: the first bytes of the chunk are taken in and answered. Assumes nothing.
use Prim.Native.Nat.{◌-◌}
use lib.ListN.{length}
use Rattle.ringplan.specs.Plan.{script_in}
use Rattle.ringplan.proofs.Turns.{Intaking}
use Rattle.ringplan.proofs.input.take_in.Given as goal

abbrev pub invariant-loop-taken : goal.invariant-loop-taken
invariant-loop-taken l = Intaking (script_in l.initial.held l.initial.keys l.initial.rests l.initial.line) l.chunk l.held l.initial.keys l.keys l.initial.rests l.rests l.initial.line l.line l.initial.out l.out l.taken

abbrev pub decreases-loop-taken : goal.decreases-loop-taken
decreases-loop-taken l = length l.chunk - l.taken
