-- `plan::plan_for` meets its contract. Assumes nothing.
use Rattle.plan.proofs.Chosen.{chosen}
use borrow.Author.Rules.{rules}
use Rattle.plan.proofs.plan_for.Goals as goal

pub returns-then-join-limit : goal.returns-then-join-limit
returns-then-join-limit c = search (rules, chosen)

pub returns-then-unlit-limit : goal.returns-then-unlit-limit
returns-then-unlit-limit c = search (rules, chosen)

pub step_three-requires : goal.step_three-requires
step_three-requires c = search (rules, chosen)
