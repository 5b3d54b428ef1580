-- `plan::rearrange::step_three` meets its contract. Assumes nothing.
use Rattle.plan.proofs.Chosen.{rearranged}
use borrow.Author.Rules.{rules}
use Rattle.plan.proofs.rearrange.step_three.Goals as goal

pub found_for-requires : goal.found_for-requires
found_for-requires c = search (rules, rearranged)

pub rearranged-requires : goal.rearranged-requires
rearranged-requires c = search (rules, rearranged)

pub returns : goal.returns
returns c = search (rules, rearranged)
