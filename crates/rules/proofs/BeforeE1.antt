-- 02, E1: "Tables saved before remain good." A table that met the ring rules with the sharing rule of then meets them now. Assumes nothing.
use Prim.Native.Nat.{ℕ}
use mathlib.Core.Path.{◌≡◌, refl}
use mathlib.Core.Bool.{true}
use mathlib.Core.List.{List}
use lib.Dec.{ltb}
use Rattle.basis.specs.Search.{every_below}
use Rattle.basis.proofs.Bools.{and_left, and_right}
use Rattle.basis.proofs.Search.{every_at, at_every}
use Rattle.limits.specs.Limits.{place_count}
use Rattle.lightpath.specs.Circuit.{can_share}
use Rattle.lightpath.specs.BeforeE1.{can_share_before_e1}
use Rattle.lightpath.specs.declared.Circuit.{Circuit}
use Rattle.lightpath.specs.declared.Direction.{Direction}
use Rattle.lightpath.proofs.BeforeE1.{before_can}
use Rattle.slots.specs.declared.Slot.{Slot}
use Rattle.slots.specs.declared.Slot.TheVariants.{Unlit as unlit, Alone as alone, Shared as shared}
use Rattle.channels.specs.Channels.{Channels, at}
use Rattle.rules.specs.Rules.{Sharing, shares_by, rules_by, ring_rules}
use Rattle.rules.specs.BeforeE1.{ring_rules_before_e1}

-- two sharing rules, the second of which lets share whatever the first does
module _ (can more : Sharing) (wider : (N : ℕ) (d : Direction) (a b : Circuit) → can N d a b ≡ true → more N d a b ≡ true) where
  -- what may stand at a place by the first may by the second
  shares_wider : (N p : ℕ) (s : Slot) → shares_by can N p s ≡ true → shares_by more N p s ≡ true
  shares_wider N p unlit h = refl
  shares_wider N p (alone a) h = refl
  shares_wider N p (shared a b) h =
      let order = and_left (ltb a.number b.number) _ h in
      let rest = and_right (ltb a.number b.number) _ h in
      rw order (search (wider, rest))

  -- so a table that meets the ring rules with the first meets them with the second
  pub rules_wider : (N : ℕ) (ks : List ℕ) (t : Channels) → rules_by can N ks t ≡ true → rules_by more N ks t ≡ true
  rules_wider N ks t h = rw now (rw was at h)
    where
      was : every_below place_count (λ p. shares_by can N p (at t p)) ≡ true
      was = search (and_left, and_right)

      now : every_below place_count (λ p. shares_by more N p (at t p)) ≡ true
      now =
          at_every place_count (λ p. shares_by more N p (at t p))
          (λ p l. shares_wider N p (at t p) (every_at place_count (λ p. shares_by can N p (at t p)) was p l))

-- 02, E1: "Tables saved before remain good.": every table that met the ring rules before E1 meets them
pub before_meets : (N : ℕ) (ks : List ℕ) (t : Channels) → ring_rules_before_e1 N ks t ≡ true → ring_rules N ks t ≡ true
before_meets = rules_wider can_share_before_e1 can_share before_can
