-- `ringplan::input::take_in` meets its contract. The loop's invariant: the first bytes of the chunk are taken in and answered. Assumes nothing.
use borrow.Author.Rules.{rules}
use Rattle.ringplan.proofs.Turns.{intaking}
use Rattle.ringplan.proofs.input.take_in.Goals as goal

pub loop-taken-init : goal.loop-taken-init
loop-taken-init c = search (rules, intaking)

pub feed-fed-requires : goal.feed-fed-requires
feed-fed-requires c = search (rules, intaking)

pub loop-taken-smaller : goal.loop-taken-smaller
loop-taken-smaller c = search (rules, intaking)

pub loop-taken-preserved : goal.loop-taken-preserved
loop-taken-preserved c = search (rules, intaking)

pub returns : goal.returns
returns c = search (rules, intaking)
