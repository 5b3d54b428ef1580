-- Placing a circuit with nothing asked, in a table that meets the ring rules and whose ports permit it: the steps serve it, and what that keeps.
-- Assumes nothing.
use Rattle.std.specs.Prelude.{Ok}
use Prim.Native.Nat.{ℕ, ◌≤◌, ◌<◌}
use mathlib.Core.Path.{◌≡◌}
use mathlib.Core.Bool.{true}
use native.Mathlib.Omega.{arith}
use Rattle.limits.specs.Limits.{place_count}
use Rattle.lightpath.specs.declared.Circuit.{Circuit}
use Rattle.channels.specs.Channels.{Channels}
use Rattle.channels.specs.Change.{puts}
use Rattle.channels.specs.Changes.{in_order}
use Rattle.ports.specs.Ports.{limit_of}
use Rattle.rules.specs.Allowable.{Allowable}
use Rattle.steps.specs.Steps.{plan_of}
use Rattle.steps.specs.Ready.{Ready}
use Rattle.steps.specs.Kept.{PlanKeeps}
use Rattle.steps.proofs.Step3.{ready}
use Rattle.steps.proofs.Steps.{plan_serves}
use Rattle.plan.specs.Planned.{Plans}
use Rattle.plan.specs.declared.Planned.{Planned}
use Rattle.plan.proofs.ByValue.{planned_changes, planned_count}
use Rattle.ring.specs.Table.{RingTable, meets_rules, with_channels}
use Rattle.ring.specs.Opening.{planned, placing}
use Rattle.ring.proofs.TableRules.{table_rules, table_limits, some_nodes}

-- a plan by value, below the limit, is carried out
pub carried_out_lem : (t : RingTable) (c : Circuit) (m : ℕ) (p : Planned) (chs : Channels) → Plans (plan_of t.nodes m t.channels c) p
    → chs ≡ puts (in_order p.changes) t.channels → m ≡ limit_of t.ports
    → record { opened = record { table = with_channels t chs; answer = Ok (record { place = p.place; moves = p.moves.count; looks = p.looks }) }; moves = p.moves } ≡ placing t c
carried_out_lem t c m p chs e f l =
    rw (← l, f, planned_changes t.nodes m t.channels c p e.is, ← planned_count t.nodes m t.channels c p e.is, e.is)

module _ (t : RingTable) (rules : meets_rules t ≡ true) where
  -- the places below the limit m can be surveyed
  pub survey_some : 0 < t.nodes
  survey_some = some_nodes t rules

  pub survey_low : (m : ℕ) → m ≡ limit_of t.ports → m ≤ place_count
  survey_low m limit = omega (arith, limit, (table_limits t rules).below)

  module _ (c : Circuit) (may : Allowable t.nodes t.ports t.channels c) where
    -- the table is ready for the steps
    pub placing_ready : (m : ℕ) → m ≡ limit_of t.ports → Ready t.nodes m t.channels c
    placing_ready m limit = rw limit (ready t.nodes t.ports t.channels c (table_rules t rules) may)

    -- Law: placing a circuit that the ports permit, in a table that meets the ring rules, keeps the rules, the circuits and the links, and
    -- names its moves
    pub placing_keeps : PlanKeeps t.nodes t.ports t.channels c (placing t c).opened.table.channels (planned t c).taken (planned t c).moves
    placing_keeps = plan_serves t.nodes t.ports t.channels c (table_rules t rules) may

-- for `search (rules, places)`
pub ruleset places = (survey_some, survey_low, placing_ready, carried_out_lem)
