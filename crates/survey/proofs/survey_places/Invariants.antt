-- `survey::survey_places` meets its contract. The loop's invariant: `seen` is what the places from `place` on have. Assumes nothing.
use Rattle.survey.proofs.Seen.{Seen}
use Rattle.survey.proofs.survey_places.Given as goal

abbrev pub invariant-loop-place : goal.invariant-loop-place
invariant-loop-place l = Seen l.nodes l.limit l.channels l.circuit l.place l.seen
