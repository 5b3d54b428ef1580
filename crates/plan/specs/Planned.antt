-- A plan of steps 1 to 3 by value, and what step 3 counts on in what was found. Assumes nothing. Serves proofs inside only.
use Rattle.std.specs.Prelude.{ℕ, ◌<◌, ◌≡◌, true, List, [], ◌∷◌}
use Rattle.slots.specs.declared.Slot.TheVariants.{Unlit as unlit}
use Rattle.channels.specs.declared.Change.{Change}
use Rattle.channels.specs.declared.Changes.{Changes}
use Rattle.channels.specs.Change.{◌gets◌}
use Rattle.channels.specs.Changes.{one_change, two_changes, three_changes, Placed}
use Rattle.moves.specs.Records.{moves_of}
use Rattle.steps.specs.Plan.{Plan}
use Rattle.steps.specs.Steps.{nowhere, stands_right}
use Rattle.pairs.specs.declared.Found.{Found}
pub use Rattle.plan.specs.declared.Planned.{Planned}

-- a list of up to three changes, by value; a plan has at least one
abbrev pub changes_of : List Change → Changes
changes_of [] = one_change (0 gets unlit)
changes_of (a ∷ []) = one_change a
changes_of (a ∷ b ∷ []) = two_changes a b
changes_of (a ∷ b ∷ c ∷ l) = three_changes a b c

-- a plan by value
abbrev pub planned_of : Plan → Planned
planned_of plan = record { changes = changes_of plan.changes; place = record { 0 = plan.taken }; moves = moves_of plan.moves; looks = plan.looks }

-- r is the plan by value, and changes places that there are
pub record Plans (plan : Plan) (r : Planned) : Type 0 where
  pub is : r ≡ planned_of plan
  pub there : Placed r.changes

-- what step 3 counts on in what was found
pub record Movable (N : ℕ) (f : Found) : Type 0 where
  pub nodes : 0 < N
  -- the first of the pair is an old one
  pub old : f.pair.first.place < nowhere
  -- 3a: where it stands right, both are old
  pub both : stands_right N f.pair.first f.pair.second f.pair.first ≡ true → f.pair.second.place < nowhere
  -- 3b: there is an x
  pub lane : f.x.place < nowhere
