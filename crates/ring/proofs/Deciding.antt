-- What an opening of a table that meets the ring rules gives, by its verdict: a refusal, or the circuit placed; a circuit and its return that step 3 finds share at the lower
-- place; the table after it meets the rules again, and the looks are at most 8,256. Assumes nothing.
use Prim.Native.Nat.{ℕ, ◌+◌, ◌≤◌, ◌<◌}
use mathlib.Core.Path.{◌≡◌, refl, sym, ap, ◌∙◌}
use mathlib.Core.Bool.{Bool, true, not}
use mathlib.Core.List.{List, [], ◌∷◌}
use native.Mathlib.Omega.{arith}
use lib.Dec.{ltb}
use lib.ListN.{get_or}
use borrow.Author.Tests.{not-true}
use Rattle.limits.specs.Limits.{least_records}
use Rattle.lightpath.specs.Circuit.{hops}
use Rattle.lightpath.specs.declared.Circuit.{Circuit}
use Rattle.channels.specs.declared.Standing.{Standing}
use Rattle.ports.specs.Ports.{limit_of, ports_at}
use Rattle.rules.specs.Allowable.{Allowable}
use Rattle.steps.specs.Plan.{one_move}
use Rattle.steps.specs.Steps.{join_place, unlit_place, found_pair, looks}
use Rattle.steps.specs.Ready.{Ready}
use Rattle.steps.specs.Kept.{PlanKeeps}
use Rattle.steps.proofs.Looks.{plan_looks}
use Rattle.steps.proofs.BothWays.{return_stays}
use Rattle.survey.specs.Survey.{survey_of}
use Rattle.survey.specs.declared.Survey.{Survey}
use Rattle.refusals.specs.Refusal.{Cause, ◌if◌, judged, Verdict}
use Rattle.refusals.specs.declared.Refusal.{Refusal}
use Rattle.refusals.specs.declared.Refusal.TheVariants.{NumberLive, NoTransmitter, NoReceiver, ShortList, BrokenRule}
use Rattle.refusals.specs.Answer.{Answer}
use Rattle.ring.specs.Table.{RingTable, meets_rules}
use Rattle.causes.specs.Causes.{named_causes}
use Rattle.ring.specs.Opening.{Decision, used_causes, request_causes, open_causes, planned, placing, refusing, decided_by, decide_of}
use Rattle.ring.specs.Answer.{opening_answer}
use Rattle.ring.proofs.TableRules.{table_limits}
use Rattle.ring.proofs.Placing.{placing_ready, placing_keeps}
use Rattle.refusals.proofs.Judged.{granted_rest, judged_past, judged_stop}
use Rattle.ring.proofs.Causes.{allowable}
use Rattle.std.specs.Prelude.{Ok, Err}

-- a table that was found to break a rule is met by 22
pub decide_unmet : (t : RingTable) (c : Circuit) (n : ℕ) (r : Bool) (d : Decision) → r ≡ meets_rules t → not r ≡ true
    → d ≡ refusing t BrokenRule → d ≡ decide_of t c n
unfolding decide_of
decide_unmet t c n r d e h k = rw (← e, not-true r h) k

module _ (t : RingTable) (c : Circuit) (n : ℕ) (rules : meets_rules t ≡ true) where
  -- 22 does not come up
  pub decided : (v : Verdict) → judged (open_causes t c n) ≡ v → decide_of t c n ≡ decided_by t c v
  unfolding decide_of
  decided v e = rw (rules, e)

  -- the short list and the nodes named are judged before what is in use
  abbrev named : List Cause
  named = (ShortList if ltb n least_records) ∷ named_causes t.nodes c

  -- a request that they meet is refused
  pub decide_refused : (v : Verdict) (r : Refusal) (d : Decision) → v ≡ judged named → v ≡ Err r → d ≡ refusing t r → d ≡ decide_of t c n
  decide_refused v r d e h k = k ∙ sym (decided (Err r) (judged_stop named (used_causes t c) r (sym e ∙ h)))

  -- and any other goes by what is in use
  pub decide_granted : (v : Verdict) (d : Decision) → v ≡ judged named → v ≡ Ok tt → d ≡ decided_by t c (judged (used_causes t c)) → d ≡ decide_of t c n
  decide_granted v d e h k = k ∙ sym (decided (judged (used_causes t c)) (judged_past named (used_causes t c) (sym e ∙ h)))

  -- a request that no cause meets is one that the ports permit
  pub permits : judged (open_causes t c n) ≡ Ok tt → Allowable t.nodes t.ports t.channels c
  permits e = allowable t c (granted_rest (ShortList if ltb n least_records) (request_causes t c) e)

  -- the pair that step 3 finds
  abbrev pair : Standing × Standing
  pair = found_pair (limit_of t.ports) t.channels c

  -- so the table is ready for its steps
  open_ready : judged (open_causes t c n) ≡ Ok tt → Ready t.nodes (limit_of t.ports) t.channels c
  open_ready e = placing_ready t rules c (permits e) (limit_of t.ports) refl

  -- 02, E1: "the lower place stays": where step 3 of an opening finds a pair whose hops total N, its two circuits are put together at the
  -- lower place
  pub open_return : judged (open_causes t c n) ≡ Ok tt
      → limit_of t.ports ≤ join_place t.nodes (limit_of t.ports) t.channels c
      → limit_of t.ports ≤ unlit_place t.nodes (limit_of t.ports) t.channels c
      → hops t.nodes pair.0.circuit + hops t.nodes pair.1.circuit ≡ t.nodes
      → (pair.0.place < pair.1.place) × (planned t c ≡ one_move c pair.0 pair.1 (looks (limit_of t.ports) t.channels c))
  open_return e none lit total =
      let l = table_limits t rules in
      let r = return_stays t.nodes (limit_of t.ports) t.channels c (omega (arith, l.long, l.below)) (open_ready e) none lit total in
      (r.0, r.2)

  -- and they serve it
  pub serves : judged (open_causes t c n) ≡ Ok tt
      → PlanKeeps t.nodes t.ports t.channels c (placing t c).opened.table.channels (planned t c).taken (planned t c).moves
  serves e = placing_keeps t rules c (permits e)

  -- Demand 3: "meets the ring rules again": whatever an opening answers, the table after it meets the ring rules
  pub open_rules : meets_rules (decide_of t c n).opened.table ≡ true
  open_rules = go (judged (open_causes t c n)) refl
    where
      go : (v : Verdict) → judged (open_causes t c n) ≡ v → meets_rules (decide_of t c n).opened.table ≡ true
      go (Ok _) e = ap (λ d. meets_rules d.opened.table) (decided (Ok tt) e) ∙ (serves e).kept.rules
      go (Err r) e = ap (λ d. meets_rules d.opened.table) (decided (Err r) e) ∙ rules

  -- 01: the looks that an opening answers are "never above 8,256"
  pub open_looks : (p k looks : ℕ) → opening_answer (decide_of t c n).opened.answer ≡ record { number = 0; values = p ∷ k ∷ looks ∷ [] } → looks ≤ 8256
  open_looks p k looks h = go (judged (open_causes t c n)) refl
    where
      -- the third value is the looks
      third : (v : Verdict) → judged (open_causes t c n) ≡ v → get_or (opening_answer (decided_by t c v).opened.answer).values 2 0 ≡ looks
      third v e = ap (λ (a : Answer). get_or a.values 2 0) (rw (decided v e) at h)

      go : (v : Verdict) → judged (open_causes t c n) ≡ v → looks ≤ 8256
      go (Ok _) e = rw (← third (Ok tt) e) (plan_looks t.nodes (limit_of t.ports) t.channels c (open_ready e))
      go (Err r) e = omega (arith, third (Err r) e)

-- what a request names is in order where the first causes do not meet it
pub named_granted : (N : ℕ) (c : Circuit) (n : ℕ) (v : Verdict) → v ≡ judged ((ShortList if ltb n least_records) ∷ named_causes N c) → v ≡ Ok tt
    → judged (named_causes N c) ≡ Ok tt
named_granted N c n v e h = granted_rest (ShortList if ltb n least_records) (named_causes N c) (sym e ∙ h)

-- a request that names two nodes of the ring, by the survey v of the places below the limit m
module _ (t : RingTable) (c : Circuit) (m : ℕ) (v : Survey) (seen : v ≡ survey_of t.nodes m t.channels c) (w : Verdict)
    (is : w ≡ judged (
    (NumberLive if ltb 0 v.numbered)
    ∷ (NoTransmitter if not (ltb v.sent (ports_at t.ports c.source)))
    ∷ (NoReceiver if not (ltb v.received (ports_at t.ports c.destination)))
    ∷ []
    )) where
  -- what was seen judges as what is in use does
  pub in_use : w ≡ judged (used_causes t c)
  in_use = rw seen at is

  pub used_refused : (r : Refusal) (d : Decision) → w ≡ Err r → d ≡ refusing t r → d ≡ decided_by t c (judged (used_causes t c))
  used_refused r d h k = rw (← in_use, h) k

  pub used_granted : (d : Decision) → w ≡ Ok tt → d ≡ placing t c → d ≡ decided_by t c (judged (used_causes t c))
  used_granted d h k = rw (← in_use, h) k

  -- one that is granted is one that the ports permit
  pub used_permits : judged (named_causes t.nodes c) ≡ Ok tt → w ≡ Ok tt → Allowable t.nodes t.ports t.channels c
  used_permits named h = allowable t c (judged_past (named_causes t.nodes c) (used_causes t c) named ∙ sym in_use ∙ h)

-- for `search (rules, deciding)`
pub ruleset deciding = (decide_refused, decide_granted, named_granted, used_refused, used_granted, used_permits)
