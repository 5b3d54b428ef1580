-- `rules::numbers::all_distinct` meets its contract. Assumes nothing.
-- the number at i was compared with so many of those after it
-- each number before i is none of those after it
use Rattle.rules.proofs.Distinct.{Told, Compared}
use Rattle.rules.proofs.numbers.all_distinct.Given as goal

abbrev pub invariant-loop-other : goal.invariant-loop-other
invariant-loop-other l = Compared l.numbers l.i l.other-index l.alike

abbrev pub invariant-loop-i : goal.invariant-loop-i
invariant-loop-i l = Told l.numbers l.i
