-- `rounds::carry_out` meets its contract. Assumes nothing.
use Rattle.std.proofs.Common.{rules}
use Rattle.rounds.proofs.Midway.{carrying}
use Rattle.rounds.proofs.carry_out.Goals as goal

pub with-requires : goal.with-requires
with-requires c = search (rules, carrying)

pub returns : goal.returns
returns c = search (rules, carrying)
