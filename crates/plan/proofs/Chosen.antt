-- The plan that is made from what was found is the plan of the steps, whichever of them serves. Assumes nothing.
use Prim.Native.Nat.{ℕ, ◌≤◌, ◌<◌}
use mathlib.Core.Path.{◌≡◌}
use native.Mathlib.Omega.{arith}
use lib.ListN.{length}
use borrow.Author.Tests.{lt-ltb, le-ltb}
use Rattle.basis.proofs.Arrays.{array_length}
use Rattle.limits.specs.Limits.{place_count}
use Rattle.lightpath.specs.Circuit.{share_direction}
use Rattle.lightpath.specs.declared.Circuit.{Circuit}
use Rattle.channels.specs.Channels.{Channels}
use Rattle.steps.specs.Plan.{joining, lighting}
use Rattle.steps.specs.Steps.{join_place, unlit_place, found_pair, rearranging, plan_of}
use Rattle.steps.specs.Ready.{Ready}
use Rattle.steps.proofs.Candidates.{found_couple, both_old}
use Rattle.survey.specs.declared.Survey.{Survey}
use Rattle.survey.specs.Survey.{survey_of, unlit_seen}
use Rattle.survey.proofs.Seen.{seen_join, seen_alone, seen_unlit}
use Rattle.pairs.specs.declared.Found.{Found}
use Rattle.pairs.specs.Pairs.{found_of, Searchable}
use Rattle.plan.specs.Planned.{Planned, Plans, Movable}

-- step 3, where steps 1 and 2 find no place
module _ (N m : ℕ) (t : Channels) (c : Circuit) (ready : Ready N m t c) (j : m ≤ join_place N m t c) (u : m ≤ unlit_place N m t c) where
  pub plan_searchable : Searchable N m t c
  plan_searchable = record { nodes = ready.nodes; low = ready.low; pair = ready.pair j u; lane = ready.lane j u }

  module _ (f : Found) (d : f ≡ found_of N m t c) where
    pub plan_movable : length t ≡ place_count → Movable N f
    plan_movable long =
        let within : m ≤ length t = omega (arith, long, ready.low) in
        let found = found_couple m t c within ready.low plan_searchable.pair in
        rw d (record {
          nodes = ready.nodes;
          old = omega (arith, found.0.low, ready.low);
          both = both_old N m t c within ready j (found_pair m t c).0 (found_pair m t c).1 found;
          lane = omega (arith, plan_searchable.lane (share_direction N (found_pair m t c).0.circuit (found_pair m t c).1.circuit), ready.low);
        })

    pub plan_moves : (p : Planned) → Plans (rearranging N c f.x f.pair.first f.pair.second f.pair.looks) p → Plans (plan_of N m t c) p
    unfolding plan_of
    plan_moves p h = rw (le-ltb (join_place N m t c) m j, le-ltb (unlit_place N m t c) m u) (rw d at h)

-- by what was seen
module _ (N m : ℕ) (t : Channels) (c : Circuit) (v : Survey) (e : v ≡ survey_of N m t c) (ready : Ready N m t c) where
  -- a place below the limit is one that there is
  pub below_there : (p : ℕ) → p < m → p < place_count
  below_there p l = omega (arith, ready.low)

  -- step 1
  pub plan_joins : (p : Planned) → v.join.place < m → Plans (joining c v.join) p → Plans (plan_of N m t c) p
  unfolding plan_of
  plan_joins p l d = let s = seen_join N m t c v e l in rw (lt-ltb (join_place N m t c) m s.0) (rw s.1 at d)

  -- where it finds none, step 2 has the place u
  module _ (j : m ≤ v.join.place) (u : ℕ) (is : u ≡ unlit_seen N m c v) where
    same : u ≡ unlit_place N m t c
    same = seen_unlit N m t c v e ready.low u is

    pub plan_lights : (p : Planned) → u < m → Plans (lighting c u) p → Plans (plan_of N m t c) p
    unfolding plan_of
    plan_lights p l d =
        rw (le-ltb (join_place N m t c) m (seen_alone N m t c v e j), lt-ltb (unlit_place N m t c) m (rw same at l), ← same) d

    -- where that is none, step 2 finds none
    pub none_unlit : m ≤ u → m ≤ unlit_place N m t c
    none_unlit full = rw same at full

-- for `search (rules, rearranged)`
pub ruleset rearranged = (array_length, plan_searchable, plan_movable, plan_moves)

-- for `search (rules, chosen)`
pub ruleset chosen = (below_there, plan_joins, plan_lights, seen_alone, none_unlit)
