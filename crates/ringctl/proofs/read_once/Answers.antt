-- `ringctl::read_once` meets its contract. Assumes nothing.
use borrow.Author.Rules.{rules}
use Rattle.ringctl.proofs.Turns.{writing, turn_written}
use Rattle.ringctl.proofs.read_once.Goals as goal

pub take_in-turn-requires : goal.take_in-turn-requires
take_in-turn-requires c = search (rules, writing)

pub returns-in-Ok : goal.returns-in-Ok
returns-in-Ok c = turn_written _ _ _ _ _ _ c.take_in-turn.ensures
