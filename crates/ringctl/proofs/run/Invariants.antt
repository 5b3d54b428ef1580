-- `ringctl::run` meets its contract. The loop's invariant: the session is one that `start` and some `feed`s lead to. Assumes nothing.
use Rattle.ringctl.specs.Turn.{Reached}
use Rattle.ringctl.proofs.run.Given as goal

abbrev pub invariant-loop : goal.invariant-loop
invariant-loop l = Reached l.session
