-- `ringplan::run` meets its contract. The loop's invariant: some bytes lead here from the start. Assumes nothing.
use Rattle.ringplan.specs.Turn.{Reached}
use Rattle.ringplan.proofs.run.Given as goal

abbrev pub invariant-loop : goal.invariant-loop
invariant-loop l = Reached l.held l.keys l.rests l.line l.out
