-- The paper's counting holds of a table that meets the ring rules, whose usable places are all lit, with a request that its ports
-- permit. Assumes nothing.
use Prim.Native.Nat.{ℕ, suc, ◌<◌}
use mathlib.Core.Path.{◌≡◌}
use mathlib.Core.Bool.{false}
use mathlib.Core.List.{List}
use native.Mathlib.Omega.{arith}
use lib.Dec.{eqb}
use lib.ListN.{length, take}
use Rattle.basis.specs.Choice.{bit}
use Rattle.basis.specs.Count.{All}
use Rattle.basis.proofs.Search.{at_all}
use Rattle.lightpath.specs.declared.Circuit.{Circuit}
use Rattle.lightpath.proofs.Links.{on_ring_lem, wider}
use Rattle.slots.specs.Slot.{is_unlit}
use Rattle.slots.specs.declared.Slot.{Slot}
use Rattle.slots.specs.declared.Slot.TheVariants.{Unlit as unlit}
use Rattle.channels.specs.Channels.{Channels, at, slots}
use Rattle.channels.proofs.Places.{take_held}
use Rattle.channels.proofs.Nonsharing.{below_length, below_at}
use Rattle.ports.specs.Ports.{limit_of}
use Rattle.rules.specs.Allowable.{Allowable}
use Rattle.rules.proofs.Rules.{Rules, limits_hold}
use Rattle.rules.proofs.Allowable.{ports_more}
use Rattle.rules.proofs.Counting.{Settled, Full, settled}

module _ (N : ℕ) (ks : List ℕ) (t : Channels) (c : Circuit) (rules : Rules N ks t) (may : Allowable N ks t c)
    (lit : (p : ℕ) → p < limit_of ks → is_unlit (at t p) ≡ false) where
  -- Paper: a table that meets the ring rules, with every place below 2 × W lit, and a circuit that its ports permit are what the counting asks
  -- for
  pub table_full : Full ks (take (limit_of ks) (slots t)) c
  table_full =
      let k = limits_hold N ks t rules in
      record {
        new = wider N (length ks) c (omega arith) (on_ring_lem N c may.ends);
        settled = each (Settled (length ks)) (λ p l. settled N (length ks) p (at t p) (omega arith) (rules.places p (omega arith)));
        usable = below_length (limit_of ks) t (omega arith);
        lit = each (λ s. is_unlit s ≡ false) lit;
        ports =
            λ j l. let h = ports_more N ks t c rules may j l in (
              omega (arith, h.0, take_held (λ c. bit (eqb c.source (suc j))) (limit_of ks) (slots t)),
              omega (arith, h.1, take_held (λ c. bit (eqb c.destination (suc j))) (limit_of ks) (slots t)),
            );
      }
    where
      each : (P : Slot → Type 0) → ((p : ℕ) → p < limit_of ks → P (at t p)) → All P (take (limit_of ks) (slots t))
      each P h =
          let k = limits_hold N ks t rules in
          at_all P unlit (take (limit_of ks) (slots t))
          (λ p l. let q : p < limit_of ks = omega (arith, below_length (limit_of ks) t (omega arith)) in rw (below_at (limit_of ks) t (omega arith) p q) (h p q))
