-- `roster_survey::pass_entries` meets its contract: `seen` is what the entries so far have. Assumes nothing.
use Rattle.std.proofs.Common.{length}
use Rattle.roster_survey.proofs.Passing.{Passing}
use Rattle.roster_survey.proofs.pass_entries.Given as goal

abbrev pub invariant-loop-key : goal.invariant-loop-key
invariant-loop-key l = Passing l.keys l.rests l.count l.circuit (length l.yielded) l.seen
