-- `roster_open::replace_all` meets its contract: the entries of the moves so far have their new places. Assumes nothing.
use Rattle.std.proofs.Common.{take}
use Rattle.roster_open.specs.InPlace.{Replaces}
use Rattle.roster_open.proofs.entries_moved.replace_all.Given as goal

abbrev pub invariant-loop-moved : goal.invariant-loop-moved
invariant-loop-moved l = Replaces (take l.moved-index l.moved-items) l.keys l.initial.rests l.count l.rests
