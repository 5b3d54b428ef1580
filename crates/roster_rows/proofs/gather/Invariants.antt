-- `roster_rows::gather` meets its contract: the entries so far are in the room. Assumes nothing.
use Rattle.roster_rows.proofs.Gathering.{Gathers}
use Rattle.roster_rows.proofs.gather.Given as goal

abbrev pub invariant-loop-i : goal.invariant-loop-i
invariant-loop-i l = Gathers l.keys l.rests l.list l.i
