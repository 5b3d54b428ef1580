-- `roster_survey::one_place` meets its contract. Assumes nothing.
use borrow.Author.Rules.{rules}
use Rattle.roster_survey.proofs.One.{one}
use Rattle.roster_survey.proofs.one_place.Goals as goal

pub overflow_mul-high : goal.overflow_mul-high
overflow_mul-high c = search (rules, one)

pub overflow_sub-result : goal.overflow_sub-result
overflow_sub-result c = search (rules, one)

pub returns : goal.returns
returns c = search (rules, one)
