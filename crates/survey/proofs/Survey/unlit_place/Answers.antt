-- `survey::Survey::unlit_place` meets its contract. Assumes nothing.
use Rattle.survey.proofs.Seen.{unlit_near, unlit_far}
use borrow.Author.Rules.{rules}
use Rattle.survey.proofs.Survey.unlit_place.Goals as goal

pub returns-then-near-limit : goal.returns-then-near-limit
returns-then-near-limit c = search (rules, unlit_near)

pub returns : goal.returns
returns c = search (rules, unlit_far)
