-- The paper's first claim: "among nonsharing sessions and the new session .. there must exist a pair of adjacent sessions". Assumes nothing.
use Prim.Native.Nat.{ℕ, suc, ◌+◌, ◌*◌, ◌≤◌, ◌<◌}
use mathlib.Core.Path.{◌≡◌, refl, sym, ◌∙◌}
use mathlib.Core.Logic.{◌⊎◌, inl, inr}
use mathlib.Core.Bool.{Bool, true, false}
use mathlib.Core.List.{List, [], ◌∷◌, ◌++◌}
use native.Mathlib.Decide.{ℕ_discrete, dec_lt}
use native.Mathlib.Omega.{arith}
use lib.Dec.{eqb}
use lib.ListN.{length, get_or, length-append}
use borrow.Author.Tests.{eqb-true, eqb-false}
use Rattle.basis.specs.Choice.{pick, bit}
use Rattle.basis.specs.Count.{tally, total, All}
use Rattle.basis.specs.Search.{pairs_with, pairs_of, first_place}
use Rattle.basis.proofs.Bools.{or_false, bit_ne, all_left, all_right, all_join, all_map}
use Rattle.basis.proofs.Search.{none_passes}
use Rattle.basis.proofs.Sums.{sum_le, sum_add, by_nodes}
use Rattle.basis.proofs.Weigh.{weigh_append}
use Rattle.lightpath.specs.Circuit.{adjacent}
use Rattle.lightpath.specs.declared.Circuit.{Circuit}
use Rattle.lightpath.proofs.Links.{OnRing}
use Rattle.slots.specs.declared.Slot.{Slot}
use Rattle.slots.specs.declared.Slot.TheVariants.{Unlit as unlit, Alone as alone, Shared as shared}
use Rattle.channels.specs.declared.Standing.{Standing}
use Rattle.channels.specs.Channels.{all_held}
use Rattle.channels.specs.Nonsharing.{alone_from, adjacent_pair}
use Rattle.rules.proofs.Counting.{sharing, Settled, Full, Node, source_node, dest_node, lit_count, few_share}

-- how many of some sessions a node transmits, and how many it receives: the paper's k_i^t and k_i^r
abbrev transmitted : ℕ → List Standing → ℕ
transmitted i ms = tally (λ m. m.circuit.source) i ms

abbrev received : ℕ → List Standing → ℕ
received i ms = tally (λ m. m.circuit.destination) i ms

-- where no later session is adjacent to a, none begins where a ends or ends where a begins
quiet : (a : Standing) (bs : List Standing) → All (λ p. adjacent_pair p ≡ false) (pairs_with a bs)
    → (transmitted a.circuit.destination bs ≡ 0) × (received a.circuit.source bs ≡ 0)
quiet a [] h = (refl, refl)
quiet a (b ∷ bs) h =
    let f = or_false (eqb a.circuit.destination b.circuit.source) (eqb b.circuit.destination a.circuit.source) h.0 in
    let rest = quiet a bs h.1 in (
      omega (arith, bit_ne b.circuit.source a.circuit.destination (λ e. eqb-false _ _ f.0 (sym e))),
      omega (arith, bit_ne b.circuit.destination a.circuit.source (eqb-false _ _ f.1)),
    )

-- "since no new adjacent session pair can be formed .. at each node i, either k_i^t = 0 or k_i^r = 0"
one_way : (i N : ℕ) (ms : List Standing) → All (λ m. OnRing N m.circuit) ms → All (λ p. adjacent_pair p ≡ false) (pairs_of ms)
    → (transmitted i ms ≡ 0) ⊎ (received i ms ≡ 0)
one_way i N [] on h = inl refl
one_way i N (m ∷ ms) on h =
    go (ℕ_discrete m.circuit.source i) (ℕ_discrete m.circuit.destination i)
    (one_way i N ms on.1 (all_right _ (pairs_with m ms) (pairs_of ms) h))
  where
    q : (transmitted m.circuit.destination ms ≡ 0) × (received m.circuit.source ms ≡ 0)
    q = quiet m ms (all_left _ (pairs_with m ms) (pairs_of ms) h)

    go : Dec (m.circuit.source ≡ i) → Dec (m.circuit.destination ≡ i) → (transmitted i ms ≡ 0) ⊎ (received i ms ≡ 0)
        → (transmitted i (m ∷ ms) ≡ 0) ⊎ (received i (m ∷ ms) ≡ 0)
    go (yes s) d ih = inr (omega (arith, bit_ne m.circuit.destination i (λ e. on.0.apart (s ∙ sym e)), rw s at q.1))
    go (no s) (yes d) ih = inl (omega (arith, bit_ne m.circuit.source i s, rw d at q.0))
    go (no s) (no d) (inl z) = inl (omega (arith, bit_ne m.circuit.source i s))
    go (no s) (no d) (inr z) = inr (omega (arith, bit_ne m.circuit.destination i d))

-- "each pair of adjacent sessions which share a directed wavelength utilizes one transmitter/receiver pair at some node": that node
abbrev junction : Circuit × Circuit → ℕ
junction p = pick (eqb p.0.destination p.1.source) p.0.destination p.1.destination

-- it is the source of one and the destination of the other
abbrev OneOf : (Circuit → ℕ) → Circuit × Circuit → Type 0
OneOf key p = (junction p ≡ key p.0) ⊎ (junction p ≡ key p.1)

-- since the two are adjacent
junction_is : (p : Circuit × Circuit) → adjacent p.0 p.1 ≡ true → OneOf (λ c. c.source) p × OneOf (λ c. c.destination) p
junction_is p h = go (eqb p.0.destination p.1.source) refl
  where
    go : (o : Bool) → eqb p.0.destination p.1.source ≡ o → OneOf (λ c. c.source) p × OneOf (λ c. c.destination) p
    go true e = rw e (inr (eqb-true _ _ e), inl refl)
    go false e = rw e (inl (eqb-true _ _ (rw e at h)), inr refl)

-- so it is counted where the two are
within : (m x y i : ℕ) → (m ≡ x) ⊎ (m ≡ y) → bit (eqb m i) ≤ bit (eqb x i) + bit (eqb y i)
within m x y i (inl e) = rw e (omega arith)
within m x y i (inr e) = rw e (omega arith)

-- "k_i^t ≤ k_i − p_i" and "k_i^r ≤ k_i − p_i": the nonsharing ones with a key and the pairs that meet there are no more than all with it
split : (key : Circuit → ℕ) (i n : ℕ) (u : List Slot) → All (OneOf key) (sharing u)
    → tally (λ m. key m.circuit) i (alone_from n u) + tally junction i (sharing u) ≤ tally key i (all_held u)
split key i n [] h = omega arith
split key i n (unlit ∷ u) h = split key i (suc n) u h
split key i n (alone a ∷ u) h = omega (arith, split key i (suc n) u h)
split key i n (shared a b ∷ u) h = omega (arith, split key i (suc n) u h.1, within (junction (a, b)) (key a) (key b) i h.0)

-- each pair meets at a node of the ring, as above
all_junctions : (N : ℕ) (u : List Slot) → All (Settled N) u
    → All (λ p. (OneOf (λ c. c.source) p × OneOf (λ c. c.destination) p) × Node N (junction p)) (sharing u)
all_junctions N [] h = tt
all_junctions N (unlit ∷ u) h = all_junctions N u h.1
all_junctions N (alone a ∷ u) h = all_junctions N u h.1
all_junctions N (shared a b ∷ u) h = ((is, node is.1), all_junctions N u h.1)
  where
    is : OneOf (λ c. c.source) (a, b) × OneOf (λ c. c.destination) (a, b)
    is = junction_is (a, b) h.0.2

    node : OneOf (λ c. c.destination) (a, b) → Node N (junction (a, b))
    node (inl e) = rw e (h.0.0.dest_low, h.0.0.dest_high)
    node (inr e) = rw e (h.0.1.dest_low, h.0.1.dest_high)

-- each nonsharing circuit is on it
all_alone : (N n : ℕ) (u : List Slot) → All (Settled N) u → All (λ m. OnRing N m.circuit) (alone_from n u)
all_alone N n [] h = tt
all_alone N n (unlit ∷ u) h = all_alone N (suc n) u h.1
all_alone N n (alone a ∷ u) h = (h.0, all_alone N (suc n) u h.1)
all_alone N n (shared a b ∷ u) h = all_alone N (suc n) u h.1

-- the nonsharing sessions of some places and the new one: of the usable places, the candidates of step 3
abbrev pub sessions : List Slot → Standing → List Standing
sessions u new = alone_from 0 u ++ new ∷ []

module _ (ks : List ℕ) (u : List Slot) (new : Standing) (full : Full ks u new.circuit) where
  -- they are on the ring
  on_ring_lem : All (λ m. OnRing (length ks) m.circuit) (sessions u new)
  on_ring_lem = all_join _ (alone_from 0 u) (new ∷ []) (all_alone (length ks) 0 u full.settled) (full.new, tt)

  -- and the sharing pairs meet on it
  junctions : All (λ p. (OneOf (λ c. c.source) p × OneOf (λ c. c.destination) p) × Node (length ks) (junction p)) (sharing u)
  junctions = all_junctions (length ks) u full.settled

  module _ (none : All (λ p. adjacent_pair p ≡ false) (pairs_of (sessions u new))) where
    -- "we proceed by contradiction": "k_i^t + k_i^r ≤ k_i − p_i"
    at_node : (j : ℕ) → j < length ks
        → transmitted (suc j) (sessions u new) + received (suc j) (sessions u new) + tally junction (suc j) (sharing u) ≤ get_or ks j 0
    at_node j l = go (one_way (suc j) (length ks) (sessions u new) on_ring_lem none)
      where
        go : (transmitted (suc j) (sessions u new) ≡ 0) ⊎ (received (suc j) (sessions u new) ≡ 0)
            → transmitted (suc j) (sessions u new) + received (suc j) (sessions u new) + tally junction (suc j) (sharing u) ≤ get_or ks j 0
        go (inl z) =
            omega (
              arith,
              (full.ports j l).1,
              weigh_append (λ m. bit (eqb m.circuit.destination (suc j))) (alone_from 0 u) (new ∷ []),
              split (λ c. c.destination) (suc j) 0 u (all_map _ _ (λ p h. h.0.1) (sharing u) junctions),
            )
        go (inr z) =
            omega (
              arith,
              (full.ports j l).0,
              weigh_append (λ m. bit (eqb m.circuit.source (suc j))) (alone_from 0 u) (new ∷ []),
              split (λ c. c.source) (suc j) 0 u (all_map _ _ (λ p h. h.0.0) (sharing u) junctions),
            )

    -- "2q ≤ K − p", with the new session among the q
    by_nodes_all : 2 * (length (alone_from 0 u) + 1) + length (sharing u) ≤ total ks
    by_nodes_all =
        omega (
          arith,
          sum_le (λ j. transmitted (suc j) (sessions u new) + received (suc j) (sessions u new) + tally junction (suc j) (sharing u)) ks at_node,
          sum_add (λ j. transmitted (suc j) (sessions u new) + received (suc j) (sessions u new)) (λ j. tally junction (suc j) (sharing u)) (length ks),
          sum_add (λ j. transmitted (suc j) (sessions u new)) (λ j. received (suc j) (sessions u new)) (length ks),
          by_nodes (λ m. m.circuit.source) (length ks) (sessions u new)
              (all_map _ _ (λ m o. source_node (length ks) m.circuit o) (sessions u new) on_ring_lem),
          by_nodes (λ m. m.circuit.destination) (length ks) (sessions u new)
              (all_map _ _ (λ m o. dest_node (length ks) m.circuit o) (sessions u new) on_ring_lem),
          by_nodes junction (length ks) (sharing u) (all_map _ _ (λ p h. h.1) (sharing u) junctions),
          length-append (alone_from 0 u) (new ∷ []),
        )

  -- Paper: the first claim, "which contradicts the above established fact": on such a ring the search for an adjacent pair finds one
  pub pair_exists : first_place adjacent_pair (pairs_of (sessions u new)) < length (pairs_of (sessions u new))
  pair_exists = go (dec_lt (first_place adjacent_pair (pairs_of (sessions u new))) (length (pairs_of (sessions u new))))
    where
      go : Dec (first_place adjacent_pair (pairs_of (sessions u new)) < length (pairs_of (sessions u new)))
          → first_place adjacent_pair (pairs_of (sessions u new)) < length (pairs_of (sessions u new))
      go (yes l) = l
      go (no h) =
          absurd (omega (
            arith,
            by_nodes_all (none_passes adjacent_pair (pairs_of (sessions u new)) h),
            lit_count 0 u full.lit,
            full.usable,
            few_share ks u new.circuit full,
          ))
