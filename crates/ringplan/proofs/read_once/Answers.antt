-- `ringplan::read_once` meets its contract. Assumes nothing.
use borrow.Author.Rules.{rules}
use Rattle.ringplan.proofs.Turns.{reading}
use Rattle.ringplan.proofs.read_once.Goals as goal

pub returns-in_default : goal.returns-in_default
returns-in_default c = search (rules, reading)

pub returns-then-count-eq0 : goal.returns-then-count-eq0
returns-then-count-eq0 c = search (rules, reading)

pub take_in-taken-requires : goal.take_in-taken-requires
take_in-taken-requires c = search (rules, reading)
