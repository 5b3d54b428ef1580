-- The row of a node: its entries, how many they are, their order, and where a number stands in it. Assumes nothing.
use Prim.Native.Nat.{ℕ, suc, ◌+◌, ◌-◌, ◌^◌, ◌≤◌, ◌<◌}
use mathlib.Core.Path.{◌≡◌, refl, sym, ap, ◌∙◌}
use mathlib.Core.Bool.{Bool, true, false, ◌&&◌}
use mathlib.Core.List.{List, [], ◌∷◌, map}
use native.Mathlib.Decide.{dec_lt, ℕ_discrete}
use native.Mathlib.Omega.{arith}
use lib.Dec.{eqb}
use lib.ListN.{length, take, drop, length-map, length-drop}
use lib.Seq.{length-take-le}
use borrow.Author.Tests.{eqb-true, eq-eqb, ne_eqb, le-leb, lt-leb}
use Rattle.basis.specs.Choice.{pick, bit}
use Rattle.basis.specs.Count.{tally, All}
use Rattle.basis.specs.Search.{first_place}
use Rattle.basis.proofs.Bools.{and_left, and_right, and_both, same_test, bit_eq, all_map, all_and}
use Rattle.basis.proofs.Weigh.{weigh_zero, distinct_most}
use Rattle.channels.specs.Channels.{Channels, circuits}
use Rattle.channels.specs.declared.Standing.{Standing}
use Rattle.ports_used.specs.PortsUsed.{sends}
use Rattle.rules.proofs.Rules.{Rules}
use Rattle.entries.specs.Entry.{key_of, row_key, in_fields}
use Rattle.entries.specs.Lists.{rank_of}
use Rattle.entries.proofs.Words.{Within, fields_within}
use Rattle.entries.proofs.Rising.{rank_most, rank_from, from_rank}
use Rattle.roster.specs.Roster.{key_in, entries}
use Rattle.roster.specs.Held.{Typed}
use Rattle.roster.specs.Listed.{Ordered, Written}
use Rattle.roster.proofs.Filing.{ordered_rising}
use Rattle.roster.proofs.Standings.{entries_circuits, entries_ordered}
use Rattle.roster.proofs.Arranged.{entries_written}
use Rattle.rows.specs.Row.{row_of, row_in, position_in}

-- an entry is within its fields
abbrev InFields : Standing → Type 0
InFields m = in_fields m.circuit ≡ true

-- one that is below k stands before it
rank_after : (k : ℕ) (m : Standing) (es : List Standing) → key_in m < k → rank_of k (map key_in (m ∷ es)) ≡ suc (rank_of k (map key_in es))
unfolding rank_of
rank_after k m es l = rw (lt-leb k (key_in m) l)

-- where none is, none does
rank_none : (k : ℕ) (es : List Standing) → All (λ n. k ≤ key_in n) es → rank_of k (map key_in es) ≡ 0
unfolding rank_of
rank_none k [] h = refl
rank_none k (m ∷ es) h = rw (le-leb k (key_in m) h.0)

-- the entries from one rank to another
abbrev between : ℕ → ℕ → List Standing → List Standing
between j k es = take (rank_of k (map key_in es) - rank_of j (map key_in es)) (drop (rank_of j (map key_in es)) es)

module _ (j k : ℕ) (m : Standing) (es : List Standing) where
  -- one that is below both is none of them
  between_below : key_in m < j → key_in m < k → between j k (m ∷ es) ≡ between j k es
  between_below l n =
      let e : suc (rank_of k (map key_in es)) - suc (rank_of j (map key_in es)) ≡ rank_of k (map key_in es) - rank_of j (map key_in es) = omega arith in
      rw (rank_after j m es l, rank_after k m es n, e)

  -- one that is below the second only is their first
  between_first : All (λ n. j ≤ key_in n) (m ∷ es) → key_in m < k → between j k (m ∷ es) ≡ m ∷ between j k es
  between_first h n =
      let e : suc (rank_of k (map key_in es)) - 0 ≡ suc (rank_of k (map key_in es) - 0) = omega arith in
      rw (rank_none j (m ∷ es) h, rank_none j es h.1, rank_after k m es n, e)

  -- and where none is below the second, there are none
  between_none : All (λ n. k ≤ key_in n) (m ∷ es) → between j k (m ∷ es) ≡ between j k es
  between_none h =
      let a : 0 - rank_of j (map key_in (m ∷ es)) ≡ 0 = omega arith in
      let b : 0 - rank_of j (map key_in es) ≡ 0 = omega arith in
      rw (rank_none k (m ∷ es) h, rank_none k es h.1, a, b)

-- 02, E7: from the start of a node's row to its end stand the entries of the node
pub row_entries : (node : ℕ) (es : List Standing) → Ordered es → All (λ m. in_fields m.circuit ≡ true) es
    → take ((row_in (map key_in es) node).end - (row_in (map key_in es) node).start) (drop (row_in (map key_in es) node).start es) ≡ row_of node es
unfolding row_key key_of
row_entries node [] h f = rw (rank_none (row_key node) [] tt, rank_none (row_key (suc node)) [] tt)
row_entries node (m ∷ es) h f = go (dec_lt m.circuit.source node) (ℕ_discrete m.circuit.source node) (row_entries node es h.1 f.1)
  where
    j : ℕ
    j = row_key node

    k : ℕ
    k = row_key (suc node)

    w : Within m.circuit
    w = fields_within m.circuit f.0

    from : (i : ℕ) → i ≤ key_in m → All (λ n. i ≤ key_in n) (m ∷ es)
    from i l = (l, all_map (λ n. key_in m ≤ key_in n) (λ n. i ≤ key_in n) (λ n b. omega arith) es h.0)

    go : Dec (m.circuit.source < node) → Dec (m.circuit.source ≡ node) → between j k es ≡ row_of node es → between j k (m ∷ es) ≡ row_of node (m ∷ es)
    go (yes l) d r = between_below j k m es (omega (arith, w)) (omega (arith, w)) ∙ r ∙ rw (ne_eqb m.circuit.source node (λ e. absurd (omega arith)))
    go (no l) (yes e) r = between_first j k m es (from j (omega (arith, w))) (omega (arith, w)) ∙ rw (eq-eqb m.circuit.source node e, r)
    go (no l) (no d) r = between_none j k m es (from k (omega (arith, w))) ∙ r ∙ rw (ne_eqb m.circuit.source node d)

-- the row ends among the entries and not before its start, and is as long as the entries of the node are many
pub record Lengths (node : ℕ) (es : List Standing) : Type 0 where
  pub order : (row_in (map key_in es) node).start ≤ (row_in (map key_in es) node).end
  pub within : (row_in (map key_in es) node).end ≤ length es
  pub long : (row_in (map key_in es) node).end - (row_in (map key_in es) node).start ≡ length (row_of node es)

pub row_length : (node : ℕ) (es : List Standing) → Ordered es → All (λ m. in_fields m.circuit ≡ true) es → Lengths node es
unfolding row_key
row_length node es h f = record { order = order; within = within; long = long }
  where
    keys : List ℕ
    keys = map key_in es

    start : ℕ
    start = rank_of (row_key node) keys

    end : ℕ
    end = rank_of (row_key (suc node)) keys

    within : end ≤ length es
    within = omega (arith, rank_most (row_key (suc node)) keys, length-map es key_in)

    order : start ≤ end
    order = go (dec_lt end (length keys))
      where
        go : Dec (end < length keys) → start ≤ end
        go (yes l) = from_rank (row_key node) keys end (omega (arith, rank_from (row_key (suc node)) keys (ordered_rising es h) end (omega arith) l))
        go (no l) = omega (arith, rank_most (row_key node) keys)

    long : end - start ≡ length (row_of node es)
    long =
        sym (length-take-le (end - start) (drop start es) (omega (arith, within, length-drop start es))) ∙ ap length (row_entries node es h f)

-- the entries of a node are as many as it sends
row_tally : (node : ℕ) (es : List Standing) → length (row_of node es) ≡ tally (λ m. m.circuit.source) node es
row_tally node [] = refl
row_tally node (m ∷ es) = go (eqb m.circuit.source node) (row_tally node es)
  where
    go : (o : Bool) → length (row_of node es) ≡ tally (λ m. m.circuit.source) node es
        → length (pick o (m ∷ row_of node es) (row_of node es)) ≡ bit o + tally (λ m. m.circuit.source) node es
    go true r = omega arith
    go false r = omega arith

-- 02, E7: a node's row has as many entries as the node sends circuits
pub row_sends : (node : ℕ) (t : Channels) → length (row_of node (entries t)) ≡ sends node (circuits t)
row_sends node t = row_tally node (entries t) ∙ entries_circuits t (λ c. bit (eqb c.source node))

-- what holds of each entry holds of each of the row, and these are of the node
pub row_all : (P : Standing → Type 0) (node : ℕ) (es : List Standing) → All P es → All (λ m. P m × (m.circuit.source ≡ node)) (row_of node es)
row_all P node [] h = tt
row_all P node (m ∷ es) h = go (eqb m.circuit.source node) refl (row_all P node es h.1)
  where
    go : (o : Bool) → eqb m.circuit.source node ≡ o → All (λ m. P m × (m.circuit.source ≡ node)) (row_of node es)
        → All (λ m. P m × (m.circuit.source ≡ node)) (pick o (m ∷ row_of node es) (row_of node es))
    go true e r = ((h.0, eqb-true m.circuit.source node e), r)
    go false e r = r

-- the numbers rise
abbrev pub Numbered : List Standing → Type 0
Numbered [] = Unit {0}
Numbered (m ∷ ms) = All (λ n. m.circuit.number < n.circuit.number) ms × Numbered ms

-- of entries in order, each number once, those of a node rise by number
pub row_numbered : (node : ℕ) (es : List Standing) → Ordered es → All (λ m. in_fields m.circuit ≡ true) es
    → ((k : ℕ) → tally (λ m. m.circuit.number) k es ≤ 1) → Numbered (row_of node es)
unfolding key_of
row_numbered node [] h f d = tt
row_numbered node (m ∷ es) h f d = go (eqb m.circuit.source node) refl (row_numbered node es h.1 f.1 (λ k. omega (arith, d k)))
  where
    Later : Standing → Type 0
    Later n = (key_in m ≤ key_in n) × ((in_fields n.circuit ≡ true) × (bit (eqb n.circuit.number m.circuit.number) ≡ 0))

    later : All Later es
    later =
        all_and _ _ es h.0 (all_and _ _ es f.1
        (weigh_zero (λ n. bit (eqb n.circuit.number m.circuit.number)) es
        (omega (arith, d m.circuit.number, bit_eq m.circuit.number m.circuit.number refl))))

    above : m.circuit.source ≡ node → (n : Standing) → Later n × (n.circuit.source ≡ node) → m.circuit.number < n.circuit.number
    above e n l = go' (ℕ_discrete n.circuit.number m.circuit.number)
      where
        go' : Dec (n.circuit.number ≡ m.circuit.number) → m.circuit.number < n.circuit.number
        go' (yes s) = absurd (omega (arith, l.0.1.1, bit_eq n.circuit.number m.circuit.number s))
        go' (no s) = omega (arith, l.0.0)

    go : (o : Bool) → eqb m.circuit.source node ≡ o → Numbered (row_of node es) → Numbered (pick o (m ∷ row_of node es) (row_of node es))
    go true e r = (all_map _ _ (above (eqb-true m.circuit.source node e)) (row_of node es) (row_all Later node es later), r)
    go false e r = r

-- 02, E7: the row of a node in a table that meets the ring rules is by rising number
pub row_rises : (N : ℕ) (ks : List ℕ) (t : Channels) → Rules N ks t → Typed t → (node : ℕ) → Numbered (row_of node (entries t))
row_rises N ks t rules typed node =
    row_numbered node (entries t) (entries_ordered t) (all_map Written InFields (λ m w. w.0) (entries t) (entries_written N ks t rules typed))
    (λ k. omega (arith, entries_circuits t (λ c. bit (eqb c.number k)), distinct_most (λ c. c.number) (circuits t) rules.numbers k))

-- a key is that of a node and a number where the entry has them
key_entry : (node number : ℕ) (m : Standing) → number < 2 ^ 32 → in_fields m.circuit ≡ true
    → eqb (key_in m) (row_key node + number) ≡ (eqb m.circuit.source node && eqb m.circuit.number number)
unfolding row_key key_of
key_entry node number m l f = same_test _ _ has is
  where
    w : Within m.circuit
    w = fields_within m.circuit f

    has : eqb (key_in m) (row_key node + number) ≡ true → (eqb m.circuit.source node && eqb m.circuit.number number) ≡ true
    has e =
        let k = eqb-true (key_in m) (row_key node + number) e in
        and_both _ _ (eq-eqb m.circuit.source node (omega (arith, w))) (eq-eqb m.circuit.number number (omega (arith, w)))

    is : (eqb m.circuit.source node && eqb m.circuit.number number) ≡ true → eqb (key_in m) (row_key node + number) ≡ true
    is e =
        let s = eqb-true m.circuit.source node (and_left _ _ e) in
        let n = eqb-true m.circuit.number number (and_right (eqb m.circuit.source node) _ e) in
        eq-eqb (key_in m) (row_key node + number) (omega arith)

-- 02, E7: the position of a node and a number among the keys is that of the entry with that source and number, or how many entries there are
pub position_entry : (node number : ℕ) (es : List Standing) → number < 2 ^ 32 → All (λ m. in_fields m.circuit ≡ true) es
    → position_in (map key_in es) node number ≡ first_place (λ m. eqb m.circuit.source node && eqb m.circuit.number number) es
unfolding position_in
position_entry node number [] l f = refl
position_entry node number (m ∷ es) l f = rw (key_entry node number m l f.0, position_entry node number es l f.1)
