-- `ringplan::input::feed` meets its contract. The loop's invariant: of the chunk the bytes from the start position up to i are taken in, and what they
-- print stands in the lent bytes up to `at`. Assumes nothing.
use Rattle.ringplan.specs.Plan.{script_in}
use Rattle.ringplan.proofs.Feeding.{Feeding}
use Rattle.ringplan.proofs.input.feed.Given as goal

abbrev pub invariant-loop-i : goal.invariant-loop-i
invariant-loop-i l = Feeding (script_in (record { desk = l.initial.desk; count = l.initial.count }) l.initial.keys l.initial.rests l.initial.line) l.chunk l.start l.desk l.count l.initial.keys l.keys l.initial.rests l.rests l.initial.line l.line l.initial.out l.out l.at l.i
