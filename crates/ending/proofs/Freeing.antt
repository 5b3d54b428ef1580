-- Who frees the ports that a request lacks, by the ends of the circuit: what makes the search short. Assumes nothing.
use Prim.Native.Nat.{ℕ, zero, suc, ◌+◌, ◌≤◌, ◌<◌}
use mathlib.Core.Path.{◌≡◌, refl, sym, ap, ◌∙◌}
use mathlib.Core.Bool.{Bool, true, false, ◌&&◌, ◌||◌, not, false≢true}
use mathlib.Core.List.{[], ◌∷◌}
use native.Mathlib.Omega.{arith}
use lib.Dec.{eqb, leb, ltb}
use borrow.Author.Tests.{lt-ltb, le-ltb, ltb-false, leb-true, not-false}
use Rattle.basis.specs.Choice.{bit}
use Rattle.basis.specs.Count.{tally, All}
use Rattle.basis.proofs.Bools.{and_left, and_right, all_map, all_and}
use Rattle.basis.proofs.Weigh.{counted}
use Rattle.limits.specs.Limits.{least_records}
use Rattle.lightpath.specs.Circuit.{on_ring}
use Rattle.lightpath.specs.declared.Circuit.{Circuit}
use Rattle.channels.specs.Channels.{live, circuits, numbered, circuit_of}
use Rattle.channels.proofs.Numbers.{holds_each}
use Rattle.ports.specs.Ports.{ports_at}
use Rattle.ports_used.specs.PortsUsed.{sends, receives, free_transmitter, free_receiver}
use Rattle.refusals.specs.Refusal.{◌if◌, judged, Verdict}
use Rattle.refusals.specs.declared.Refusal.TheVariants.{NumberLive, NoTransmitter, NoReceiver}
use Rattle.refusals.proofs.Judged.{none_holds, judged_past}
use Rattle.causes.specs.Causes.{named_causes}
use Rattle.ring.specs.Table.{meets_rules}
use Rattle.ring.specs.Opening.{used_causes, request_causes, decided_by}
use Rattle.ring.specs.Closing.{close_of}
use Rattle.ring.specs.declared.RingTable.{RingTable}
use Rattle.ring.proofs.TableRules.{table_rules, table_limits}
use Rattle.ring.proofs.Deciding.{decided}
use Rattle.ring.proofs.Closing.{TakenOff, close_takes, close_rules}
use Rattle.ending.specs.Ending.{is_served, answer_to, frees}
use Rattle.ending.specs.Search.{helps_by}
use Rattle.std.specs.Prelude.{Ok, Err}

-- a verdict that grants
abbrev pub grants : Verdict → Bool
grants (Ok _) = true
grants (Err r) = false

-- an opening is served where no cause meets its request
pub served_granted : (t : RingTable) (c : Circuit) → meets_rules t ≡ true → is_served (answer_to t c) ≡ grants (judged (request_causes t c))
served_granted t c rules = ap (λ d. is_served d.opened.answer) (decided t c least_records rules (judged (request_causes t c)) refl) ∙ by (judged (request_causes t c))
  where
    by : (v : Verdict) → is_served (decided_by t c v).opened.answer ≡ grants v
    by (Ok _) = refl
    by (Err r) = refl

-- a port that is free, or that one of as many as there are gives up
freed : (before after ports : ℕ) (gone : Bool) → after + bit gone ≡ before → before ≤ ports → ltb after ports ≡ (ltb before ports || gone)
freed before after ports true e l = lt-ltb after ports (omega arith) ∙ sym (either (ltb before ports))
  where
    either : (o : Bool) → (o || true) ≡ true
    either true = refl
    either false = refl
freed before after ports false e l = let k : after ≡ before = omega arith in rw k (sym (either (ltb before ports)))
  where
    either : (o : Bool) → (o || false) ≡ o
    either true = refl
    either false = refl

module _ (t : RingTable) (rules : meets_rules t ≡ true) where
  -- no node of the ring has more circuits than ports
  within : (i : ℕ) → on_ring t.nodes i ≡ true
      → (sends i (circuits t.channels) ≤ ports_at t.ports i) × (receives i (circuits t.channels) ≤ ports_at t.ports i)
  within zero h = absurd (false≢true h)
  within (suc j) h =
      let l = table_limits t rules in
      (table_rules t rules).ports j (omega (arith, l.fields, l.most, leb-true (suc j) t.nodes (and_right (leb 1 (suc j)) _ h)))

  -- a request that names two nodes of the ring and a number that is not live
  module _ (c : Circuit) (named : judged (named_causes t.nodes c) ≡ Ok tt) (unused : live t.channels c.number ≡ false) where
    -- both nodes are on the ring
    ends : (on_ring t.nodes c.source ≡ true) × (on_ring t.nodes c.destination ≡ true)
    ends =
        let h = not-false (on_ring t.nodes c.source && on_ring t.nodes c.destination) (none_holds (named_causes t.nodes c) named).0 in
        (and_left _ _ h, and_right (on_ring t.nodes c.source) _ h)

    abbrev sender : Bool
    sender = free_transmitter t.ports t.channels c.source

    abbrev receiver : Bool
    receiver = free_receiver t.ports t.channels c.destination

    -- of the table without a live circuit x
    module _ (x : Circuit) (there : 0 < numbered x.number (circuits t.channels)) (is : circuit_of t.channels x.number ≡ x) where
      abbrev u : RingTable
      u = (close_of t x.number).table

      off : TakenOff t x.number (close_of t x.number)
      off = close_takes t x.number rules (lt-ltb 0 (numbered x.number (circuits t.channels)) there)

      -- a count of circuits by a key falls by x
      less : (key : Circuit → ℕ) (k : ℕ) → tally key k (circuits u.channels) + bit (eqb (key x) k) ≡ tally key k (circuits t.channels)
      less key k = omega (arith, rw is at (off.kept.exact (λ y. bit (eqb (key y) k))))

      -- the number is not live there either
      still : live u.channels c.number ≡ false
      still = le-ltb 0 (numbered c.number (circuits u.channels)) (omega (arith, less (λ y. y.number) c.number, ltb-false 0 (numbered c.number (circuits t.channels)) unused))

      -- each port by itself
      transmitter : free_transmitter u.ports u.channels c.source ≡ (sender || eqb x.source c.source)
      transmitter = rw off.same_ports (freed _ _ _ _ (less (λ y. y.source) c.source) (within c.source ends.0).0)

      arrival : free_receiver u.ports u.channels c.destination ≡ (receiver || eqb x.destination c.destination)
      arrival = rw off.same_ports (freed _ _ _ _ (less (λ y. y.destination) c.destination) (within c.destination ends.1).1)

      one : frees t c x.number ≡ helps_by sender receiver c x
      one =
          served_granted u c (close_rules t x.number rules)
          ∙ ap grants (judged_past (named_causes u.nodes c) (used_causes u c) (rw off.same_nodes named))
          ∙ rw (still, transmitter, arrival) (both (sender || eqb x.source c.source) (receiver || eqb x.destination c.destination))
        where
          both : (a b : Bool) → grants (judged ((NumberLive if false) ∷ (NoTransmitter if not a) ∷ (NoReceiver if not b) ∷ [])) ≡ (a && b)
          both true true = refl
          both true false = refl
          both false b = refl

    -- 02, E8: a circuit frees what is lacking exactly by its ends: it is from the request's source where no transmitter is free there, and to
    -- its destination where no receiver is
    pub frees_helps : All (λ x. frees t c x.number ≡ helps_by sender receiver c x) (circuits t.channels)
    frees_helps =
        let r = table_rules t rules in
        all_map _ _ (λ x h. one x h.0 h.1) (circuits t.channels)
        (all_and _ _ (circuits t.channels) (counted (λ y. y.number) (circuits t.channels))
        (holds_each t.channels r.numbers (table_limits t rules).long (circuits t.channels) (λ w. refl)))
