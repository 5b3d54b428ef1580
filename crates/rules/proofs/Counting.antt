-- The paper's useful fact, where all 2 × W usable places are lit and the ports serve their circuits and one more: with p places shared
-- by two circuits, K port pairs and W = K / 3 rounded up, "p < K − 2W". Other circuits of the ring only count against the ports.
-- And a table that meets the ring rules, full or not, holds at most 192 circuits. Assumes nothing.
use Prim.Native.Nat.{ℕ, suc, ◌+◌, ◌*◌, ◌≤◌, ◌<◌}
use mathlib.Core.Path.{◌≡◌, refl}
use mathlib.Core.Bool.{true, false, true≢false}
use mathlib.Core.List.{List, [], ◌∷◌}
use native.Mathlib.Omega.{arith}
use lib.ListN.{length}
use borrow.Author.Tests.{leb-true}
use Rattle.basis.specs.Count.{total, All}
use Rattle.basis.proofs.Bools.{and_left, and_right, all_map}
use Rattle.basis.proofs.Search.{at_all}
use Rattle.basis.proofs.Sums.{sum_le, by_nodes}
use Rattle.limits.specs.Limits.{most_total}
use Rattle.lightpath.specs.Place.{direction_of}
use Rattle.lightpath.specs.Circuit.{adjacent}
use Rattle.lightpath.specs.declared.Circuit.{Circuit}
use Rattle.lightpath.proofs.Links.{OnRing, on_ring_lem, wider}
use Rattle.lightpath.proofs.Share.{can_adjacent}
use Rattle.slots.specs.Slot.{is_unlit}
use Rattle.slots.specs.declared.Slot.{Slot}
use Rattle.slots.specs.declared.Slot.TheVariants.{Unlit as unlit, Alone as alone, Shared as shared}
use Rattle.channels.specs.Channels.{Channels, at, slots, all_held, circuits}
use Rattle.channels.specs.Nonsharing.{alone_from}
use Rattle.channels.proofs.Places.{slots_length, slots_at}
use Rattle.ports.specs.Ports.{limit_of}
use Rattle.ports_used.specs.PortsUsed.{sends}
use Rattle.rules.specs.Rules.{fits}
use Rattle.rules.proofs.Rules.{PortsHold, Rules, limits_hold}
use Rattle.rules.proofs.Fits.{couple, alone_joins}

-- the pairs that share a place; p is their number, and q that of the circuits alone at theirs
abbrev pub sharing : List Slot → List (Circuit × Circuit)
sharing [] = []
sharing (unlit ∷ u) = sharing u
sharing (alone a ∷ u) = sharing u
sharing (shared a b ∷ u) = (a, b) ∷ sharing u

-- what a place holds is on a ring of N nodes, and two are adjacent
abbrev pub Settled : ℕ → Slot → Type 0
Settled N unlit = Unit {0}
Settled N (alone a) = OnRing N a
Settled N (shared a b) = OnRing N a × OnRing N b × (adjacent a b ≡ true)

-- "in step 3": the usable places u are all lit, and the ports serve their circuits and the new one c
pub record Full (ks : List ℕ) (u : List Slot) (c : Circuit) : Type 0 where
  pub new : OnRing (length ks) c
  pub settled : All (Settled (length ks)) u
  pub usable : length u ≡ limit_of ks
  pub lit : All (λ s. is_unlit s ≡ false) u
  pub ports : PortsHold ks (c ∷ all_held u)

-- a node of the ring
abbrev pub Node : ℕ → ℕ → Type 0
Node N i = (1 ≤ i) × (i ≤ N)

-- a circuit's ends are nodes
pub source_node : (N : ℕ) (c : Circuit) → OnRing N c → Node N c.source
source_node N c h = omega arith

pub dest_node : (N : ℕ) (c : Circuit) → OnRing N c → Node N c.destination
dest_node N c h = omega arith

-- what fits at a place is settled there
pub settled : (M N p : ℕ) (s : Slot) → M ≤ N → fits M p s ≡ true → Settled N s
settled M N p unlit l h = tt
settled M N p (alone a) l h = wider M N a l (on_ring_lem M a (alone_joins M p a h))
settled M N p (shared a b) l h =
    let k = couple M p a b h in
    (wider M N a l (on_ring_lem M a k.first), wider M N b l (on_ring_lem M b k.second), can_adjacent M (direction_of p) a b k.can)

-- every circuit of settled places is on the ring
all_on : (N : ℕ) (u : List Slot) → All (Settled N) u → All (OnRing N) (all_held u)
all_on N [] h = tt
all_on N (unlit ∷ u) h = all_on N u h.1
all_on N (alone a ∷ u) h = (h.0, all_on N u h.1)
all_on N (shared a b ∷ u) h = (h.0.0, (h.0.1, all_on N u h.1))

-- q + 2 × p circuits stand there
held_count : (i : ℕ) (u : List Slot) → length (all_held u) ≡ length (alone_from i u) + 2 * length (sharing u)
held_count i [] = refl
held_count i (unlit ∷ u) = held_count (suc i) u
held_count i (alone a ∷ u) = omega (arith, held_count (suc i) u)
held_count i (shared a b ∷ u) = omega (arith, held_count (suc i) u)

-- "w = p + q": the lit places
pub lit_count : (i : ℕ) (u : List Slot) → All (λ s. is_unlit s ≡ false) u → length u ≡ length (sharing u) + length (alone_from i u)
lit_count i [] h = refl
lit_count i (unlit ∷ u) h = absurd (true≢false h.0)
lit_count i (alone a ∷ u) h = omega (arith, lit_count (suc i) u h.1)
lit_count i (shared a b ∷ u) h = omega (arith, lit_count (suc i) u h.1)

-- circuits of the ring are at most as many as the ports that serve them: each has a transmitter
sent_most : (ks : List ℕ) (cs : List Circuit) → All (OnRing (length ks)) cs → PortsHold ks cs → length cs ≤ total ks
sent_most ks cs on ports =
    omega (
      arith,
      sum_le (λ j. sends (suc j) cs) ks (λ j l. (ports j l).0),
      by_nodes (λ c. c.source) (length ks) cs (all_map _ _ (source_node (length ks)) cs on),
    )

-- so a table that meets the ring rules holds at most as many as K can be
pub circuits_most : (N : ℕ) (ks : List ℕ) (t : Channels) → Rules N ks t → length (circuits t) ≤ most_total
circuits_most N ks t rules =
    let b = rules.bounds in
    let k : total ks ≤ most_total = leb-true (total ks) most_total (search (and_left, and_right)) in
    omega (arith, sent_most ks (circuits t) (all_on (length ks) (slots t) places) rules.ports)
  where
    places : All (Settled (length ks)) (slots t)
    places =
        let l = limits_hold N ks t rules in
        at_all (Settled (length ks)) unlit (slots t)
        (λ p h. rw slots_at (settled N (length ks) p (at t p) (omega (arith, l.most, l.fields)) (rules.places p (omega (arith, slots_length t, l.long)))))

module _ (ks : List ℕ) (u : List Slot) (c : Circuit) (full : Full ks u c) where
  -- "2p + q < K": each circuit has a transmitter, and so has the new one
  senders : (i : ℕ) → 2 * length (sharing u) + length (alone_from i u) < total ks
  senders i =
      omega (
        arith,
        sent_most ks (c ∷ all_held u) (full.new, all_on (length ks) u full.settled) full.ports,
        held_count i u,
      )

  -- Paper: "p < K − 2W": where every place below 2 × W is lit and there are free ports for one more circuit, fewer than K − 2W of these places
  -- are shared
  pub few_share : length (sharing u) + limit_of ks < total ks
  few_share = omega (arith, senders 0, lit_count 0 u full.lit, full.usable)
