-- 02, E4: the law of the loads from each link to the next clockwise. Assumes nothing.
use Prim.Native.Nat.{ℕ, zero, suc, ◌+◌, ◌≤◌, ◌<◌}
use mathlib.Core.Path.{◌≡◌, sym}
use mathlib.Core.Bool.{true}
use native.Mathlib.Omega.{arith}
use lib.ListN.{length}
use Rattle.basis.specs.Count.{tally, All}
use Rattle.basis.proofs.Bools.{and_left, and_right, all_join, all_map}
use Rattle.basis.proofs.Weigh.{weigh_same, weigh_balance, weigh_apart}
use Rattle.limits.specs.Limits.{most_wavelengths, place_count}
use Rattle.lightpath.specs.Place.{place_of}
use Rattle.lightpath.specs.Circuit.{joins, next, users}
use Rattle.lightpath.specs.Ends.{start_of, stop_of}
use Rattle.lightpath.specs.declared.Direction.{Direction}
use Rattle.lightpath.specs.declared.Direction.TheVariants.{Clockwise as clockwise, Counterclockwise as counterclockwise}
use Rattle.lightpath.proofs.Links.{OnRing, on_ring_lem}
use Rattle.lightpath.proofs.Onward.{over_last_lem, onward, onward_most}
use Rattle.slots.specs.Slot.{held}
use Rattle.slots.specs.declared.Slot.{Slot}
use Rattle.slots.specs.declared.Slot.TheVariants.{Unlit as unlit, Alone as alone, Shared as shared}
use Rattle.channels.specs.Channels.{Channels, at}
use Rattle.rules.specs.Rules.{ends}
use Rattle.ring.specs.Table.{meets_rules}
use Rattle.ring.specs.declared.RingTable.{RingTable}
use Rattle.ring.proofs.TableRules.{table_rules}
use Rattle.load.specs.Load.{lightpaths_below, lightpaths, link_load}
use Rattle.load.specs.NextLink.{grows, falls}
use Rattle.load.specs.Walk.{over_last, Joined}

-- circuits at a place whose ends are on the ring
held_on : (N : ℕ) (s : Slot) → ends N s ≡ true → All (OnRing N) (held s)
held_on N unlit h = tt
held_on N (alone a) h = (on_ring_lem N a h, tt)
held_on N (shared a b) h = (on_ring_lem N a (and_left _ _ h), (on_ring_lem N b (and_right (joins N a) _ h), tt))

-- a wavelength's place is one of the table's
pub place_inside : (w : ℕ) (d : Direction) → w < most_wavelengths → place_of w d < place_count
place_inside w clockwise h = omega arith
place_inside w counterclockwise h = omega arith

module _ (N : ℕ) (t : Channels) (joined : Joined N t) where
  -- every circuit of a place is on the ring
  pub place_on : (p : ℕ) → p < place_count → All (OnRing N) (held (at t p))
  place_on p i = held_on N (at t p) (joined p i)

module _ (N : ℕ) (t : Channels) (joined : Joined N t) (d : Direction) where
  -- and so is every lightpath
  lightpaths_on : (w : ℕ) → w ≤ most_wavelengths → All (OnRing N) (lightpaths_below w t d)
  unfolding lightpaths_below
  lightpaths_on zero i = tt
  lightpaths_on (suc w) i =
      all_join (OnRing N) (lightpaths_below w t d) (held (at t (place_of w d))) (lightpaths_on w (omega arith))
      (place_on N t joined (place_of w d) (place_inside w d i))

  -- those over link N
  pub load_last : over_last d (lightpaths t d) ≡ link_load N t d N
  unfolding users
  load_last = sym (weigh_same _ _ (lightpaths t d) (all_map _ _ (λ c o. over_last_lem N c o d) (lightpaths t d) (lightpaths_on most_wavelengths (omega arith))))

  -- from link l to the next the load grows by the lightpaths that start at the node between and falls by those that stop there
  pub load_onward : (l : ℕ) → 1 ≤ l → l ≤ N
      → link_load N t d (next N l) + tally (stop_of d) (next N l) (lightpaths t d) ≡ link_load N t d l + tally (start_of d) (next N l) (lightpaths t d)
  unfolding users
  load_onward l low high =
      weigh_balance _ _ _ _ (lightpaths t d)
      (all_map _ _ (λ c o. onward N c o d l low high) (lightpaths t d) (lightpaths_on most_wavelengths (omega arith)))

  -- 02, E4: on the way from link to link the load and the lightpaths that start are at most all of the direction
  pub load_added : (l : ℕ) → 1 ≤ l → l ≤ N → link_load N t d l + tally (start_of d) (next N l) (lightpaths t d) ≤ length (lightpaths t d)
  unfolding users
  load_added l low high =
      weigh_apart _ _ (lightpaths t d)
      (all_map _ _ (λ c o. onward_most N c o d l low high) (lightpaths t d) (lightpaths_on most_wavelengths (omega arith)))

-- the circuits of a table that meets the rules are on its ring
pub table_joined : (t : RingTable) → meets_rules t ≡ true → Joined t.nodes t.channels
table_joined t meets p i = and_left _ _ ((table_rules t meets).places p i)

-- 02, E4: "from each link to the next clockwise, link 1 after link N, the clockwise load grows by the clockwise lightpaths from the node
-- between and falls by those to it, the counterclockwise load the other way about"
pub load_next : (t : RingTable) → meets_rules t ≡ true → (d : Direction) (l : ℕ) → 1 ≤ l → l ≤ t.nodes
    → link_load t.nodes t.channels d (next t.nodes l) + falls t.channels d (next t.nodes l)
    ≡ link_load t.nodes t.channels d l + grows t.channels d (next t.nodes l)
load_next t meets clockwise l low high = load_onward t.nodes t.channels (table_joined t meets) clockwise l low high
load_next t meets counterclockwise l low high = load_onward t.nodes t.channels (table_joined t meets) counterclockwise l low high
