-- `ringctl::run` meets its contract. The loop's invariant: the session is one that `start` and some `feed`s lead to. Assumes nothing.
use borrow.Author.Rules.{rules}
use Rattle.ringctl.proofs.Turns.{turns}
use Rattle.ringctl.proofs.run.Goals as goal

pub loop-init : goal.loop-init
loop-init c = search (rules, turns)
