-- Demand 3's own list of reasons agrees with the causes of a refusal, and a request that none of them meets is one that the ports permit.
-- Assumes nothing.
use Prim.Native.Nat.{ℕ}
use mathlib.Core.Path.{◌≡◌, refl, ap}
use mathlib.Core.Bool.{Bool, true, false, ◌&&◌, ◌||◌, not}
use native.Mathlib.Omega.{arith}
use lib.Dec.{leb}
use borrow.Author.Tests.{ltb-true, ltb-false, not-false}
use Rattle.basis.proofs.Bools.{and_both, not_leb, not_ltb}
use Rattle.lightpath.specs.Circuit.{on_ring}
use Rattle.lightpath.specs.declared.Circuit.{Circuit}
use Rattle.channels.specs.Channels.{circuits, numbered}
use Rattle.ports.specs.Ports.{ports_at}
use Rattle.ports_used.specs.PortsUsed.{sends, receives}
use Rattle.rules.specs.Allowable.{Allowable}
use Rattle.refusals.specs.Refusal.{judged}
use Rattle.ring.specs.Table.{RingTable}
use Rattle.ring.specs.Opening.{request_causes, open_causes}
use Rattle.refusals.proofs.Judged.{none_holds}
use Rattle.refusals.proofs.Reasons.{Agree}
use Rattle.ring.specs.Demand3.{reasons}
use Rattle.std.specs.Prelude.{Ok}

-- a node off the ring, by each of its two bounds
off_ring : (a b c d : Bool) → not ((a && b) && (c && d)) ≡ (not a || not b || not c || not d)
off_ring true true true d = refl
off_ring true true false d = refl
off_ring true false c d = refl
off_ring false b c d = refl

-- so it is with an opening's causes
pub agree : (t : RingTable) (c : Circuit) (n : ℕ) → Agree (open_causes t c n) (reasons t c n)
agree t c n = (
  refl,
  refl,
  (
    rw (← not_leb 1 c.source, ← not_leb c.source t.nodes, ← not_leb 1 c.destination, ← not_leb c.destination t.nodes)
        (off_ring (leb 1 c.source) (leb c.source t.nodes) (leb 1 c.destination) (leb c.destination t.nodes)),
    refl,
    (
      refl,
      refl,
      (
        refl,
        refl,
        (
          not_ltb (sends c.source (circuits t.channels)) (ports_at t.ports c.source),
          refl,
          (not_ltb (receives c.destination (circuits t.channels)) (ports_at t.ports c.destination), refl, tt),
        ),
      ),
    ),
  ),
)

-- then the ports permit it: the only place that knows where each cause stands
pub allowable : (t : RingTable) (c : Circuit) → judged (request_causes t c) ≡ Ok tt → Allowable t.nodes t.ports t.channels c
allowable t c e =
    let h = none_holds (request_causes t c) e in
    record {
      ends = and_both _ _ (not-false (on_ring t.nodes c.source && on_ring t.nodes c.destination) h.0) (ap not h.1.0);
      unused = omega (arith, ltb-false 0 (numbered c.number (circuits t.channels)) h.1.1.0);
      sender = ltb-true _ _ (not-false _ h.1.1.1.0);
      receiver = ltb-true _ _ (not-false _ h.1.1.1.1.0);
    }
