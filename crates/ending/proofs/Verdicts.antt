-- The answer by the verdict on a request: 22, then what meets it, then who would have to end. Assumes nothing.
use mathlib.Core.Path.{◌≡◌, refl, sym, ap, ◌∙◌}
use mathlib.Core.Bool.{Bool, true, false, ◌&&◌, ◌||◌, not, false≢true}
use mathlib.Core.List.{List, [], ◌∷◌}
use lib.Dec.{eqb}
use Rattle.basis.specs.Choice.{pick}
use Rattle.limits.specs.Limits.{least_records}
use Rattle.lightpath.specs.Circuit.{on_ring}
use Rattle.lightpath.specs.declared.Circuit.{Circuit}
use Rattle.channels.specs.Channels.{live}
use Rattle.ports_used.specs.PortsUsed.{free_transmitter, free_receiver}
use Rattle.refusals.specs.Refusal.{Cause, ◌if◌, judged, number_of, Verdict}
use Rattle.refusals.specs.declared.Refusal.{Refusal}
use Rattle.refusals.specs.declared.Refusal.TheVariants.{OffRing, SameNode, NumberLive, NoTransmitter, NoReceiver, BrokenRule}
use Rattle.causes.specs.Causes.{named_causes}
use Rattle.ring.specs.Table.{meets_rules}
use Rattle.ring.specs.Opening.{refusing, request_causes, decided_by, decide_of}
use Rattle.ring.specs.declared.Decision.{Decision}
use Rattle.ring.specs.declared.RingTable.{RingTable}
use Rattle.ring.proofs.Deciding.{decide_unmet, decided}
use Rattle.ending.specs.Ending.{Ending, not_asked, answer_to, lacks_port, who_ends, reply, ending_of}
use Rattle.ending.specs.Search.{ending_by}
use Rattle.std.specs.Prelude.{Ok, Err}

-- a verdict is for want of a port
abbrev pub wants_port : Verdict → Bool
wants_port (Ok _) = false
wants_port (Err r) = eqb (number_of r) 13 || eqb (number_of r) 14

-- the answer by what is decided
abbrev from : RingTable → Circuit → Decision → Ending
from t c d = pick (lacks_port d.opened.answer) (who_ends t c) (reply d.opened.answer)

module _ (t : RingTable) (c : Circuit) where
  ending_from : (d : Decision) → decide_of t c least_records ≡ d → ending_of t c ≡ from t c d
  unfolding ending_of
  ending_from d e = ap (from t c) e

  -- a table that breaks a ring rule is met by 22
  unmet : meets_rules t ≡ false → decide_of t c least_records ≡ refusing t BrokenRule
  unmet h = sym (decide_unmet t c least_records (meets_rules t) (refusing t BrokenRule) refl (ap not h) refl)

  pub ending_unmet : meets_rules t ≡ false → ending_of t c ≡ not_asked BrokenRule
  ending_unmet h = ending_from (refusing t BrokenRule) (unmet h)

  -- of any other the request is judged
  pub ending_verdict : meets_rules t ≡ true → (v : Verdict) → judged (request_causes t c) ≡ v → ending_of t c ≡ ending_by t c v
  ending_verdict rules v e = ending_from (decided_by t c v) (decided t c least_records rules v e) ∙ by v
    where
      by : (v : Verdict) → from t c (decided_by t c v) ≡ ending_by t c v
      by (Ok _) = refl
      by (Err r) = refl

  -- the causes that meet a request, each by itself
  abbrev off : Bool
  off = not (on_ring t.nodes c.source && on_ring t.nodes c.destination)

  abbrev same : Bool
  same = eqb c.source c.destination

  abbrev ports : List Cause
  ports =
      (NoTransmitter if not (free_transmitter t.ports t.channels c.source)) ∷ (NoReceiver if not (free_receiver t.ports t.channels c.destination)) ∷ []

  -- what a request that lacks a port has: the table meets the ring rules, and the request names two nodes of the ring and a number that is not
  -- live
  pub record Lacking : Type 0 where
    pub rules : meets_rules t ≡ true
    pub named : judged (named_causes t.nodes c) ≡ Ok tt
    pub unused : live t.channels c.number ≡ false

  pub lacking : lacks_port (answer_to t c) ≡ true → Lacking
  lacking h = go (meets_rules t) refl
    where
      past : (a b l : Bool) (rest : List Cause) → wants_port (judged ((OffRing if a) ∷ (SameNode if b) ∷ (NumberLive if l) ∷ rest)) ≡ true
          → (judged ((OffRing if a) ∷ (SameNode if b) ∷ []) ≡ Ok tt) × (l ≡ false)
      past true b l rest h = absurd (false≢true h)
      past false true l rest h = absurd (false≢true h)
      past false false true rest h = absurd (false≢true h)
      past false false false rest h = (refl, refl)

      wants : (v : Verdict) → lacks_port (decided_by t c v).opened.answer ≡ wants_port v
      wants (Ok _) = refl
      wants (Err r) = refl

      go : (o : Bool) → meets_rules t ≡ o → Lacking
      go true e =
          let d = decided t c least_records e (judged (request_causes t c)) refl in
          let k = past off same (live t.channels c.number) ports (sym (ap (λ d. lacks_port d.opened.answer) d ∙ wants (judged (request_causes t c))) ∙ h) in
          record { rules = e; named = k.0; unused = k.1 }
      go false e = absurd (false≢true (sym (ap (λ d. lacks_port d.opened.answer) (unmet e)) ∙ h))

  -- a request that is refused by the nodes that it names is refused by that number
  pub named_refused : (r : Refusal) → judged (named_causes t.nodes c) ≡ Err r → ending_by t c (Err r) ≡ not_asked r
  named_refused r h = rw (other off same h)
    where
      other : (a b : Bool) → judged ((OffRing if a) ∷ (SameNode if b) ∷ []) ≡ Err r → (eqb (number_of r) 13 || eqb (number_of r) 14) ≡ false
      other true b e = sym (ap wants_port e)
      other false true e = sym (ap wants_port e)
      other false false e = sym (ap wants_port e)
