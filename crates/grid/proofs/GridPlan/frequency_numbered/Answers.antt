-- `grid::GridPlan::frequency_numbered` meets its contract. Assumes nothing.
use borrow.Author.Rules.{rules}
use Rattle.grid.proofs.Calls.{granted_plan, tuned_said, tuned_refused}
use Rattle.std.proofs.lemmas.Result.{err_from_is_err_and}
use Rattle.grid.proofs.GridPlan.frequency_numbered.Goals as goal

pub tuned-requires : goal.tuned-requires
tuned-requires c = search (rules, granted_plan)

pub returns : goal.returns
returns c = search (rules, tuned_said)

pub returns-in_err-judge : goal.returns-in_err-judge
returns-in_err-judge c =
    let p = err_from_is_err_and c.from_residual.result c.from_residual.ensures.1 in
    let h = tuned_refused c.args.self c.args.number _ _ c.judge.ensures c.in_err-judge.was in
    rw (p.1, p.2) (record { answer = h.0; numbers = h.1 })
