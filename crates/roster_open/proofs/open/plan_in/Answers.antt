-- `roster_open::plan_in` meets its contract. Assumes nothing.
use borrow.Author.Rules.{rules}
use Rattle.plan.proofs.Chosen.{chosen}
use Rattle.roster_open.proofs.Calls.{within_keys, within_rests, planning}
use Rattle.roster_open.proofs.open.plan_in.Goals as goal

pub returns-then-join-limit : goal.returns-then-join-limit
returns-then-join-limit c = search (rules, chosen)

pub returns-then-unlit-limit : goal.returns-then-unlit-limit
returns-then-unlit-limit c = search (rules, chosen)

pub places_of-channels-requires : goal.places_of-channels-requires
places_of-channels-requires c = search (rules, within_keys, within_rests)

pub step_three-requires : goal.step_three-requires
step_three-requires c = (search (rules, planning), search (rules, planning, chosen), search (rules, planning, chosen))

pub returns : goal.returns
returns c = search (rules, planning)
