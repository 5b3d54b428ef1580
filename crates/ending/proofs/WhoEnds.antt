-- 02, E8, sentence by sentence. Assumes nothing.
use Prim.Native.Nat.{ℕ, ◌≤◌}
use mathlib.Core.Path.{◌≡◌, refl, sym, ap, ◌∙◌}
use mathlib.Core.Logic.{◌↔◌}
use mathlib.Core.Bool.{Bool, true, false, ◌&&◌, not, false≢true}
use mathlib.Core.List.{[], ◌∷◌}
use native.Mathlib.Omega.{arith}
use lib.Dec.{eqb}
use borrow.Author.Tests.{le-ltb}
use Rattle.basis.specs.Choice.{pick}
use Rattle.basis.specs.Count.{All}
use Rattle.basis.proofs.Bools.{all_map}
use Rattle.limits.specs.Limits.{least_records}
use Rattle.lightpath.specs.declared.Circuit.{Circuit}
use Rattle.lightpath.specs.declared.Place.{Place}
use Rattle.channels.specs.Channels.{circuits}
use Rattle.moves.specs.Records.{listed}
use Rattle.ports_used.specs.PortsUsed.{free_transmitter, free_receiver}
use Rattle.refusals.specs.Refusal.{◌if◌, judged, Verdict}
use Rattle.refusals.specs.Answer.{done, some_given, verdict_answer}
use Rattle.refusals.specs.declared.Refusal.TheVariants.{BrokenRule}
use Rattle.refusals.proofs.Reasons.{some_given_lem}
use Rattle.ring.specs.Table.{meets_rules}
use Rattle.ring.specs.Opening.{open_causes, decided_by, decide_of, Opening}
use Rattle.ring.specs.declared.Taken.{Taken}
use Rattle.ring.specs.Closing.{close_of}
use Rattle.ring.specs.Demand3.{reasons, ServedBy}
use Rattle.ring.specs.declared.RingTable.{RingTable}
use Rattle.ring.proofs.Causes.{agree}
use Rattle.ring.proofs.Closing.{close_takes, close_rules}
use Rattle.ring.proofs.Demand.{demand3}
use Rattle.ending.specs.Ending.{Ending, ends, nobody, not_asked, requested, answer_to, is_served, lacks_port, frees, those, lowest_of, who_ends, reply, ending_of}
use Rattle.ending.specs.LowestLive.{LowestLive}
use Rattle.ending.specs.Search.{helps_by}
use Rattle.ending.proofs.Picked.{tells}
use Rattle.ending.proofs.Freeing.{grants, served_granted, frees_helps}
use Rattle.ending.proofs.Verdicts.{lacking}
use Rattle.std.specs.Prelude.{Ok, Err}

-- a request that 13 or 14 would meet
module _ (t : RingTable) (c : Circuit) (lacks : lacks_port (answer_to t c) ≡ true) where
  searched : ending_of t c ≡ who_ends t c
  unfolding ending_of
  searched = rw lacks

  -- 02, E8: "give the lowest-numbered live circuit whose closing alone lets that request be served": the circuit named is live and frees, no
  -- other of a lower number does, and whatever circuit is so is the one named
  pub ends_lowest : (n : ℕ) → (ending_of t c ≡ ends n) ↔ LowestLive (frees t c) t.channels n
  ends_lowest n = rw searched ((tells (frees t c) t.channels).0 n)

  -- 02, E8: "Say that there is none exactly when no live circuit does so"
  pub ends_nobody : (ending_of t c ≡ nobody) ↔ All (λ x. frees t c x.number ≡ false) (circuits t.channels)
  ends_nobody = rw searched (tells (frees t c) t.channels).1

  -- by which of its two ports is free
  by_ports : (sender receiver : Bool) → free_transmitter t.ports t.channels c.source ≡ sender
      → free_receiver t.ports t.channels c.destination ≡ receiver
      → All (λ x. frees t c x.number ≡ helps_by sender receiver c x) (circuits t.channels)
  by_ports sender receiver s r = let l = lacking t c lacks in rw (s, r) at (frees_helps t l.rules c l.named l.unused)

  -- 02, E8: "with both ends full only a circuit from the same source to the same destination can", and each of these does
  pub same_ends : free_transmitter t.ports t.channels c.source ≡ false → free_receiver t.ports t.channels c.destination ≡ false
      → All (λ x. frees t c x.number ≡ (eqb x.source c.source && eqb x.destination c.destination)) (circuits t.channels)
  same_ends s r = by_ports false false s r

  -- Law: where 13 alone would come, a circuit frees exactly when it is from that source
  pub from_source : free_transmitter t.ports t.channels c.source ≡ false → free_receiver t.ports t.channels c.destination ≡ true
      → All (λ x. frees t c x.number ≡ eqb x.source c.source) (circuits t.channels)
  from_source s r = all_map _ _ (λ x h. h ∙ only (eqb x.source c.source)) (circuits t.channels) (by_ports false true s r)
    where
      only : (o : Bool) → (o && true) ≡ o
      only true = refl
      only false = refl

  -- Law: where 14 alone would come, a circuit frees exactly when it is to that destination
  pub to_destination : free_transmitter t.ports t.channels c.source ≡ true → free_receiver t.ports t.channels c.destination ≡ false
      → All (λ x. frees t c x.number ≡ eqb x.destination c.destination) (circuits t.channels)
  to_destination s r = by_ports true false s r

-- only such a request has a circuit named
asked : (t : RingTable) (c : Circuit) (n : ℕ) → ending_of t c ≡ ends n → lacks_port (answer_to t c) ≡ true
unfolding ending_of
asked t c n e = go (answer_to t c) (who_ends t c) e
  where
    go : (a : Opening) (w : Ending) → pick (lacks_port a) w (reply a) ≡ ends n → lacks_port a ≡ true
    go (Ok _) w k = let z : ◌≡◌ {A = ℕ} 0 1 = cc in absurd (omega arith)
    go (Err r) w k = by (lacks_port (Err r)) k
      where
        by : (o : Bool) → pick o w (not_asked r) ≡ ends n → o ≡ true
        by true k = refl
        by false k = let z : ◌≡◌ {A = ℕ} 0 1 = cc in absurd (omega arith)

module _ (t : RingTable) (c : Circuit) (n : ℕ) (named : ending_of t c ≡ ends n) where
  lacks : lacks_port (answer_to t c) ≡ true
  lacks = asked t c n named

  rules : meets_rules t ≡ true
  rules = (lacking t c lacks).rules

  found : LowestLive (frees t c) t.channels n
  found = (ends_lowest t c lacks n).0 named

  -- the table after its closing
  abbrev u : RingTable
  u = (close_of t n).table

  -- on which nothing meets the request
  unmet : (k : ℕ) → 3 ≤ k → some_given (reasons u c k) ≡ false
  unmet k l = rw (le-ltb k 3 l) (three (some_given (reasons u c 3)) refl)
    where
      three : (o : Bool) → some_given (reasons u c 3) ≡ o → o ≡ false
      three true h =
          let x = some_given_lem (open_causes u c 3) (reasons u c 3) (agree u c 3) h in
          absurd (false≢true (sym (ap grants x.1) ∙ sym (served_granted u c (close_rules t n rules)) ∙ found.passes))
      three false h = refl

  -- Law: closing the circuit named and then opening the request is served, with any list of three records or more, and demand 3 holds of it
  pub then_served : (verdict_answer (close_of t n).verdict ≡ done [])
      × ((k : ℕ) → 3 ≤ k → ServedBy (close_of t n).table c (decide_of (close_of t n).table c k).opened (listed (decide_of (close_of t n).table c k).moves))
  then_served = ((close_takes t n rules found.alive).answer, λ k l. (demand3 u c k (close_rules t n rules)).served (unmet k l))

-- what an opening answers but for its values goes by the verdict, which is the same for requests that differ in remark and account
module _ (c : Circuit) where
  abbrev plain : Circuit
  plain = requested c.number c.source c.destination

  module _ {A : Type 0} (f : Opening → A) (alike : (x y : Taken) → f (Ok x) ≡ f (Ok y)) where
    by_verdict : (u : RingTable) (v : Verdict) → f (decided_by u c v).opened.answer ≡ f (decided_by u plain v).opened.answer
    by_verdict u (Ok _) = alike _ _
    by_verdict u (Err r) = refl

    alike_answered : (u : RingTable) → f (answer_to u c) ≡ f (answer_to u plain)
    unfolding decide_of
    alike_answered u = by_verdict u (judged ((BrokenRule if not (meets_rules u)) ∷ open_causes u c least_records))

  -- Law: remark and account play no part
  pub no_part : (t : RingTable) → ending_of t c ≡ ending_of t (requested c.number c.source c.destination)
  unfolding ending_of
  no_part t =
      let lacks = alike_answered lacks_port (λ x y. refl) t in
      let same = alike_answered reply (λ x y. refl) t in
      λ i. pick (lacks i) (lowest_of (those (λ n. alike_answered is_served (λ x y. refl) (close_of t n).table i) (circuits t.channels))) (same i)
