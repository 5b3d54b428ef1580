-- `rounds::tidy` meets its contract. Assumes nothing.
use Rattle.std.proofs.Common.{rules}
use Rattle.rounds.proofs.Midway.{midway}
use Rattle.rounds.proofs.tidy.Goals as goal

pub loop-next-init : goal.loop-next-init
loop-next-init c = search (rules, midway)

pub carry_out-tidied-requires : goal.carry_out-tidied-requires
carry_out-tidied-requires c = search (rules, midway)

pub next_round-next-requires-in-Some : goal.next_round-next-requires-in-Some
next_round-next-requires-in-Some c = search (rules, midway)

pub loop-next-smaller : goal.loop-next-smaller
loop-next-smaller c = search (rules, midway)

pub loop-next-preserved : goal.loop-next-preserved
loop-next-preserved c = search (rules, midway)

pub returns : goal.returns
returns c = search (rules, midway)
