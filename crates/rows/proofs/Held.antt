-- The row of a node where keys and rests hold a table: the entries of the node, as many as it sends. Assumes nothing. `search (rules, held)`
-- finds what a caller that lends the row has to show.
use Prim.Native.Nat.{ℕ, zero, suc, ◌+◌, ◌-◌, ◌≤◌}
use mathlib.Core.Path.{◌≡◌, refl, sym, ap, ◌∙◌}
use mathlib.Core.Bool.{true}
use mathlib.Core.List.{List, [], ◌∷◌, map}
use native.Mathlib.Omega.{arith}
use lib.ListN.{length, get_or, take, drop, length-drop}
use lib.Dec.{leb}
use lib.Seq.{length-take-le, take-take}
use borrow.Author.Tests.{leb-true}
use Rattle.basis.specs.Count.{All}
use Rattle.basis.proofs.Bools.{and_left, and_right, all_map}
use Rattle.limits.specs.Limits.{most_ports, most_circuits}
use Rattle.lightpath.specs.Circuit.{on_ring}
use Rattle.channels.specs.Channels.{Channels, circuits}
use Rattle.ports.specs.Ports.{each_at_most}
use Rattle.ports_used.specs.PortsUsed.{sends, receives}
use Rattle.rules.proofs.Rules.{Rules, limits_hold}
use Rattle.entries.specs.Entry.{in_fields}
use Rattle.entries.specs.Lists.{Rising}
use Rattle.roster.specs.Roster.{key_in, entries, entries_in}
use Rattle.roster.specs.Held.{Holds}
use Rattle.roster.specs.Listed.{Written, Lists}
use Rattle.roster.proofs.Filing.{ordered_rising}
use Rattle.roster.proofs.Arranged.{entries_back, held_keys, held_rests, holds_lists}
use Rattle.roster.proofs.Listing.{lists_room}
use Rattle.rows.specs.Row.{Row, row_of, row_in}
use Rattle.rows.proofs.Rows.{Lengths, row_entries, row_length, row_sends}

-- no rests, no entries
none_in : (keys : List ℕ) → entries_in keys [] ≡ []
none_in [] = refl
none_in (k ∷ keys) = refl

-- the first entries are of the first keys and rests
entries_take : (n : ℕ) (keys rests : List ℕ) → entries_in (take n keys) (take n rests) ≡ take n (entries_in keys rests)
entries_take zero keys rests = refl
entries_take (suc n) [] rests = refl
entries_take (suc n) (k ∷ keys) [] = refl
entries_take (suc n) (k ∷ keys) (r ∷ rests) = rw (entries_take n keys rests)

-- and those after some are of those after as many
entries_drop : (n : ℕ) (keys rests : List ℕ) → entries_in (drop n keys) (drop n rests) ≡ drop n (entries_in keys rests)
entries_drop zero keys rests = refl
entries_drop (suc n) [] rests = refl
entries_drop (suc n) (k ∷ keys) [] = none_in (drop n keys)
entries_drop (suc n) (k ∷ keys) (r ∷ rests) = entries_drop n keys rests

-- a part of a list is one of its first n, where it ends among them
part_take : {A : Type 0} (s m n : ℕ) (l : List A) → s + m ≤ n → take m (drop s (take n l)) ≡ take m (drop s l)
part_take zero m n l h = take-take m n l (omega arith)
part_take (suc s) m zero l h = absurd (omega arith)
part_take (suc s) m (suc n) [] h = refl
part_take (suc s) m (suc n) (x ∷ l) h = part_take s m n l (omega arith)

-- each port count is at most m
each_at : (m : ℕ) (ks : List ℕ) → each_at_most m ks ≡ true → (j : ℕ) → get_or ks j 0 ≤ m
each_at m [] h j = omega arith
each_at m (k ∷ ks) h zero = leb-true k m (and_left _ _ h)
each_at m (k ∷ ks) h (suc j) = each_at m ks (and_right (leb k m) _ h) j

-- a node of the ring sends at most 64 circuits
pub sends_most : (N : ℕ) (ks : List ℕ) (t : Channels) → Rules N ks t → (node : ℕ) → on_ring N node ≡ true → sends node (circuits t) ≤ most_ports
sends_most N ks t rules zero on = absurd (omega (arith, leb-true 1 0 (and_left (leb 1 0) (leb 0 N) on)))
sends_most N ks t rules (suc j) on =
    let l = limits_hold N ks t rules in
    let i = leb-true (suc j) N (and_right (leb 1 (suc j)) _ on) in
    omega (arith, (rules.ports j (omega (arith, l.fields, l.most))).0, each_at most_ports ks (search (rules.bounds, and_left, and_right)) j)

-- and receives at most as many
pub receives_most : (N : ℕ) (ks : List ℕ) (t : Channels) → Rules N ks t → (node : ℕ) → on_ring N node ≡ true → receives node (circuits t) ≤ most_ports
receives_most N ks t rules zero on = absurd (omega (arith, leb-true 1 0 (and_left (leb 1 0) (leb 0 N) on)))
receives_most N ks t rules (suc j) on =
    let l = limits_hold N ks t rules in
    let i = leb-true (suc j) N (and_right (leb 1 (suc j)) _ on) in
    omega (arith, (rules.ports j (omega (arith, l.fields, l.most))).1, each_at most_ports ks (search (rules.bounds, and_left, and_right)) j)

module _ (N : ℕ) (ks : List ℕ) (t : Channels) (keys rests : List ℕ) (count : ℕ) (h : Holds N ks t keys rests count) where
  lists : Lists (entries t) keys rests count
  lists = holds_lists N ks t keys rests count h

  fields : All (λ m. in_fields m.circuit ≡ true) (entries t)
  fields = all_map Written (λ m. in_fields m.circuit ≡ true) (λ m w. w.0) (entries t) lists.written

  -- there is room for all
  pub held_room_lem : (length keys ≡ most_circuits) × (length rests ≡ most_circuits)
  held_room_lem = lists_room (entries t) keys rests count lists

  few : count ≤ most_circuits
  few = omega (arith, lists.counted, lists.most)

  -- those in use are there and rise
  pub held_rising : (count ≤ length keys) × Rising (take count keys)
  held_rising = (omega (arith, few, held_room_lem), rw (held_keys N ks t keys rests count h) (ordered_rising (entries t) lists.ordered))

  pub held_used : count ≤ length keys
  held_used = held_rising.0

  pub held_ordered : Rising (take count keys)
  held_ordered = held_rising.1

  module _ (node : ℕ) (r : Row) (e : r ≡ row_in (take count keys) node) where
    is : r ≡ row_in (map key_in (entries t)) node
    is = e ∙ ap (λ l. row_in l node) (held_keys N ks t keys rests count h)

    lengths : Lengths node (entries t)
    lengths = row_length node (entries t) lists.ordered fields

    -- it ends not before its start, and among the keys and the rests
    pub held_order : r.start ≤ r.end
    held_order = rw is lengths.order

    within : r.end ≤ count
    within = rw is (omega (arith, lengths.within, lists.counted))

    pub held_keyed : r.end ≤ length keys
    held_keyed = omega (arith, within, few, held_room_lem)

    pub held_rested : r.end ≤ length rests
    held_rested = omega (arith, within, few, held_room_lem)

    -- its keys and its rests are as many
    pub keys_long : length (take (r.end - r.start) (drop r.start keys)) ≡ r.end - r.start
    keys_long = length-take-le _ _ (omega (arith, held_order, held_keyed, length-drop r.start keys))

    pub rests_same : length (take (r.end - r.start) (drop r.start rests)) ≡ length (take (r.end - r.start) (drop r.start keys))
    rests_same = length-take-le _ _ (omega (arith, held_order, held_rested, length-drop r.start rests)) ∙ sym keys_long

    -- 02, E7: where keys and rests hold a table, the row of a node is as long as the node sends circuits
    pub held_sends : r.end - r.start ≡ sends node (circuits t)
    held_sends = rw is (lengths.long ∙ row_sends node t)

    -- 02, E7: that row has the entries of the node
    pub held_row : entries_in (take (r.end - r.start) (drop r.start keys)) (take (r.end - r.start) (drop r.start rests)) ≡ row_of node (entries t)
    held_row =
        let l : r.start + (r.end - r.start) ≤ count = omega (arith, held_order, within) in
        rw (
          ← part_take r.start (r.end - r.start) count keys l,
          ← part_take r.start (r.end - r.start) count rests l,
          held_keys N ks t keys rests count h,
          held_rests N ks t keys rests count h,
          entries_take,
          entries_drop,
          entries_back (entries t) lists.written,
          is,
        )
        (row_entries node (entries t) lists.ordered fields)

pub ruleset held = (held_used, held_ordered, held_order, held_keyed, held_rested, held_sends)
