-- `rules::numbers::numbers_of` meets its contract. Assumes nothing.
-- the numbers of the circuits before i are set
use Rattle.limits.specs.Limits.{circuit_room}
use Rattle.rules.proofs.Distinct.{Beside}
use Rattle.rules.proofs.numbers.numbers_of.Given as goal

abbrev pub invariant-loop-i : goal.invariant-loop-i
invariant-loop-i l = Beside l.circuits l.numbers circuit_room l.i
