-- `text::read_signed` meets its contract. Assumes nothing.
use Rattle.text.proofs.Sign.{below_wide, below_negated, below_narrow, above_narrow, below_none, below_some, above_none, above_some}
use Rattle.text.proofs.read_signed.Goals as goal

pub returns-in_err-below-in-Some : goal.returns-in_err-below-in-Some
returns-in_err-below-in-Some c = below_none _ c.in-Some.ensures.cases.0 _ c.in-Some.ensures.cases.1 _ c.from_residual.ensures c.in_err-below-in-Some.ensures

pub overflow_cast-result : goal.overflow_cast-result
overflow_cast-result c = below_wide _ _ c.in_ok-below-in-Some.ensures

pub overflow_sub-result : goal.overflow_sub-result
overflow_sub-result c = below_negated _ _ c.in_ok-below-in-Some.ensures

pub overflow_cast-result-in-Some : goal.overflow_cast-result-in-Some
overflow_cast-result-in-Some c = below_narrow _ _ c.in_ok-below-in-Some.ensures

pub returns-in_err-above-in-None : goal.returns-in_err-above-in-None
returns-in_err-above-in-None c = above_none _ c.in-None.ensures.cases _ c.from_residual-in_err-above-in-None.ensures c.in_err-above-in-None.ensures

pub overflow_cast-result-in-None : goal.overflow_cast-result-in-None
overflow_cast-result-in-None c = above_narrow _ _ c.in_ok-above-in-None.ensures

pub returns-in_ok-below-in-Some : goal.returns-in_ok-below-in-Some
returns-in_ok-below-in-Some c = below_some _ c.in-Some.ensures.cases.0 _ c.in-Some.ensures.cases.1 _ c.in_ok-below-in-Some.ensures

pub returns-in_ok-above-in-None : goal.returns-in_ok-above-in-None
returns-in_ok-above-in-None c = above_some _ c.in-None.ensures.cases _ c.in_ok-above-in-None.ensures
