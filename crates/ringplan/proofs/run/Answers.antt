-- `ringplan::run` meets its contract. The loop's invariant: some bytes lead here from the start. Assumes nothing.
use borrow.Author.Rules.{rules}
use Rattle.ringplan.proofs.Turns.{reached_end, turns}
use Rattle.ringplan.proofs.run.Goals as goal

pub loop-init : goal.loop-init
loop-init c = search (rules, turns)

pub read_once-turn-requires : goal.read_once-turn-requires
read_once-turn-requires c = search (rules, turns)

pub loop-preserved : goal.loop-preserved
loop-preserved c = search (rules, turns)

pub end_input-requires : goal.end_input-requires
end_input-requires c = reached_end _ _ _ _ _ _ _ _ _ _ _ c.loop.invariant c.read_once-turn.ensures.ready c.read_once-turn.ensures.read (search rules)
