-- `roster_survey::find_join` meets its contract: `found` is the entry to join of those before i. Assumes nothing.
use Rattle.roster_survey.proofs.Lowest.{Finding}
use Rattle.roster_survey.proofs.find_join.Given as goal

abbrev pub invariant-loop-i : goal.invariant-loop-i
invariant-loop-i l = Finding l.nodes l.limit l.keys l.rests l.count l.circuit l.shared l.i l.found
