-- What the code answers by what it saw of the places is what is defined. Assumes nothing.
use Prim.Native.Nat.{ℕ, ◌≤◌, ◌<◌}
use mathlib.Core.Path.{◌≡◌, sym, ap, ◌∙◌}
use mathlib.Core.Bool.{Bool, true, false, not, true≢false}
use mathlib.Core.List.{[], ◌∷◌}
use lib.Dec.{ltb}
use borrow.Author.Tests.{lt-ltb, le-ltb}
use Rattle.lightpath.specs.declared.Circuit.{Circuit}
use Rattle.channels.specs.Channels.{circuits}
use Rattle.ports.specs.Ports.{ports_at}
use Rattle.survey.specs.Survey.{survey_of}
use Rattle.survey.specs.declared.Survey.{Survey}
use Rattle.refusals.specs.Refusal.{◌if◌, judged, Verdict}
use Rattle.refusals.specs.declared.Refusal.{Refusal}
use Rattle.refusals.specs.declared.Refusal.TheVariants.{NumberLive, NoTransmitter, NoReceiver, BrokenRule}
use Rattle.refusals.proofs.Judged.{judged_past, judged_stop}
use Rattle.causes.specs.Causes.{named_causes}
use Rattle.ring.specs.Table.{meets_rules}
use Rattle.ring.specs.Opening.{used_causes}
use Rattle.ring.specs.declared.RingTable.{RingTable}
use Rattle.ring.proofs.Deciding.{in_use}
use Rattle.ending.specs.Ending.{Ending, nobody, served, not_asked, who_ends, frees}
use Rattle.ending.specs.Search.{helps_by, none_found, with_all, who_is, ending_by}
use Rattle.ending.proofs.Freeing.{grants, frees_helps}
use Rattle.ending.proofs.Verdicts.{ending_unmet, ending_verdict, named_refused}
use Rattle.ending.proofs.Numbers.{Answered, answered}
use Rattle.ending.proofs.Searching.{found_lowest}
use Rattle.std.specs.Prelude.{Ok, Err}

-- a request that names two nodes of the ring, by the survey v of the places below the limit m
module _ (t : RingTable) (c : Circuit) (m : ℕ) (v : Survey) (seen : v ≡ survey_of t.nodes m t.channels c) (w : Verdict)
    (is : w ≡ judged (
    (NumberLive if ltb 0 v.numbered)
    ∷ (NoTransmitter if not (ltb v.sent (ports_at t.ports c.source)))
    ∷ (NoReceiver if not (ltb v.received (ports_at t.ports c.destination)))
    ∷ []
    )) where
  used : w ≡ judged (used_causes t c)
  used = in_use t c m v seen w is

  -- nothing meets it
  pub named_served : w ≡ Ok tt → served ≡ ending_by t c (judged (used_causes t c))
  named_served h = rw (← used, h)

  module _ (r : Refusal) (h : w ≡ Err r) where
    -- its number is live
    pub named_live : 0 < v.numbered → not_asked r ≡ ending_by t c (judged (used_causes t c))
    named_live l = rw (← used) (ap to (sym h ∙ live) ∙ sym (ap (ending_by t c) live))
      where
        live : w ≡ Err NumberLive
        live = is ∙ rw (lt-ltb 0 v.numbered l)

        to : Verdict → Ending
        to (Ok _) = nobody
        to (Err r) = not_asked r

    -- else it lacks a port
    lacks : v.numbered ≤ 0 → ending_by t c w ≡ who_ends t c
    lacks l = go (not (ltb v.sent (ports_at t.ports c.source))) (not (ltb v.received (ports_at t.ports c.destination))) (is ∙ rw (le-ltb 0 v.numbered l)) h
      where
        go : (a b : Bool) → w ≡ judged ((NumberLive if false) ∷ (NoTransmitter if a) ∷ (NoReceiver if b) ∷ []) → w ≡ Err r → ending_by t c w ≡ who_ends t c
        go true b e k = rw e
        go false true e k = rw e
        go false false e k = absurd (true≢false (ap grants (sym e ∙ k)))

    -- and the circuit that was found is who would have to end
    pub named_lacks : meets_rules t ≡ true → judged (named_causes t.nodes c) ≡ Ok tt → v.numbered ≤ 0 → (s q : Bool)
        → s ≡ ltb v.sent (ports_at t.ports c.source) → q ≡ ltb v.received (ports_at t.ports c.destination)
        → (e : Ending) → e ≡ who_is (with_all (helps_by s q c) (circuits t.channels) none_found) → e ≡ ending_by t c (judged (used_causes t c))
    named_lacks rules named l s q a b e k = k ∙ found ∙ sym (lacks l) ∙ ap (ending_by t c) used
      where
        unused : ltb 0 v.numbered ≡ false
        unused = le-ltb 0 v.numbered l

        found : who_is (with_all (helps_by s q c) (circuits t.channels) none_found) ≡ who_ends t c
        found = found_lowest (helps_by s q c) (frees t c) (circuits t.channels) (rw (a, b, seen) (frees_helps t rules c named (rw seen at unused)))

-- the whole answer
module _ (t : RingTable) (c : Circuit) where
  -- a table that was found to break a rule is met by 22
  pub broken : (o : Bool) → o ≡ meets_rules t → o ≡ false → Answered t c (not_asked BrokenRule)
  broken o e h = answered t c (not_asked BrokenRule) (sym (ending_unmet t c (sym e ∙ h)))

  module _ (rules : meets_rules t ≡ true) (w : Verdict) (is : w ≡ judged (named_causes t.nodes c)) where
    -- a node off the ring or one twice
    pub refused_named : (r : Refusal) → w ≡ Err r → Answered t c (not_asked r)
    refused_named r h =
        answered t c (not_asked r)
        (sym (ending_verdict t c rules (Err r) (judged_stop (named_causes t.nodes c) (used_causes t c) r (sym is ∙ h)) ∙ named_refused t c r (sym is ∙ h)))

    pub named_granted : w ≡ Ok tt → judged (named_causes t.nodes c) ≡ Ok tt
    named_granted h = sym is ∙ h

    -- any other
    pub granted_named : w ≡ Ok tt → (e : Ending) → e ≡ ending_by t c (judged (used_causes t c)) → Answered t c e
    granted_named h e k =
        answered t c e (k ∙ sym (ending_verdict t c rules (judged (used_causes t c)) (judged_past (named_causes t.nodes c) (used_causes t c) (sym is ∙ h))))
