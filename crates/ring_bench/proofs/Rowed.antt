-- The checksum of the rows of a roster: an entry more, the entries of a row, the rows of all nodes, so many times. Assumes nothing.
use Prim.Native.Nat.{ℕ, ◌+◌, ◌-◌, ◌*◌, ◌%◌, ◌^◌, ◌≤◌, ◌<◌}
use mathlib.Core.Path.{◌≡◌, refl, ap, ◌∙◌}
use mathlib.Core.List.{List, ◌∷◌}
use native.Mathlib.Numerals.{add-one}
use native.Mathlib.Omega.{arith}
use lib.ListN.{length, take, drop}
use mir.Syntax.{w64}
use mir.Val.{Fits}
use Rattle.std.proofs.lemmas.List.{nil_from_length}
use Rattle.channels.specs.Channels.{Channels}
use Rattle.channels.specs.declared.Standing.{Standing}
use Rattle.ring.specs.declared.RingTable.{RingTable}
use Rattle.entries.specs.Entry.{entry_of}
use Rattle.roster.specs.Roster.{entries, entries_in, places_of}
use Rattle.roster.specs.Held.{Holds, HoldsTable}
use Rattle.roster.specs.declared.Heading.{Heading}
use Rattle.roster.proofs.Holding.{held_table, held_again}
use Rattle.rows.specs.Row.{row_in, row_of}
use Rattle.rows.specs.declared.Row.{Row}
use Rattle.rows.proofs.Held.{held_room_lem, held_order, held_keyed, held_row, rests_same}
use Rattle.ring_bench.specs.Lookups.{with_entry, with_all, with_rows, lookups}

module _ (key rest : ℕ) (m : Standing) (e : m ≡ entry_of key rest) where
  -- its fields are small
  small : (m.circuit.number < 2 ^ 32) × ((m.circuit.destination < 2 ^ 8) × (m.place < 2 ^ 8))
  unfolding entry_of
  small = rw e (omega arith, (omega arith, omega arith))

  -- so what is added fits, and the sum
  pub ends_fit : Fits w64 (m.circuit.destination * 7 + m.place)
  ends_fit = record { fits = omega (arith, small) }

  pub sum_fits : (sum : ℕ) → sum < 2 ^ 32 → Fits w64 (sum * 31 + m.circuit.number + (m.circuit.destination * 7 + m.place))
  sum_fits sum h = record { fits = omega (arith, small) }

  -- and that is the checksum with it
  pub entry_summed : (sum : ℕ) → (sum * 31 + m.circuit.number + (m.circuit.destination * 7 + m.place)) % 2 ^ 32 ≡ with_entry sum (entry_of key rest)
  unfolding with_entry
  entry_summed sum = rw e

-- for `search (rules, summed)`
pub ruleset summed = (ends_fit, sum_fits, entry_summed)

-- those of the keys ks and the rests rs are still to be summed
pub record Summing (keys rests : List ℕ) (sum last : ℕ) (ks rs : List ℕ) : Type 0 where
  pub rest : with_all last (entries_in ks rs) ≡ with_all sum (entries_in keys rests)
  pub same : length rs ≡ length ks

-- none is summed
pub sum_none : (keys rests : List ℕ) (sum : ℕ) → length rests ≡ length keys → Summing keys rests sum sum keys rests
sum_none keys rests sum s = record { rest = refl; same = s }

module _ (keys rests : List ℕ) (sum last : ℕ) (ks rs : List ℕ) (q : Summing keys rests sum last ks rs) where
  -- the next one is
  pub sum_next : (k r : ℕ) (ks' rs' : List ℕ) → ks ≡ k ∷ ks' → rs ≡ r ∷ rs' → (s : ℕ) → s ≡ with_entry last (entry_of k r) → Summing keys rests sum s ks' rs'
  sum_next k r ks' rs' e d s f = record { rest = rw f (rw (e, d) at q.rest); same = omega (arith, ap length e, ap length d, q.same) }

  -- all are
  pub sum_all : length ks ≡ 0 → last ≡ with_all sum (entries_in keys rests)
  sum_all h = rw (nil_from_length ks h) at q.rest

-- those of the nodes up to this one are summed
pub record Rowed (es : List Standing) (N sum last node : ℕ) : Type 0 where
  pub is : last ≡ with_rows es sum node
  pub within : node ≤ N

-- no row is summed
pub rows_none : (es : List Standing) (N sum : ℕ) → Rowed es N sum sum 0
unfolding with_rows
rows_none es N sum = record { is = refl; within = omega arith }

-- the next one is
pub rows_next : (es : List Standing) (N sum last node r : ℕ) → Rowed es N sum last node → node < N → r ≡ with_all last (row_of (node + 1) es)
    → Rowed es N sum r (node + 1)
unfolding with_rows
rows_next es N sum last node r q h e = record { is = rw (add-one node) (rw (add-one node, q.is) at e); within = omega arith }

-- all are
pub rows_all_lem : (es : List Standing) (N sum last node : ℕ) → Rowed es N sum last node → N ≤ node → last ≡ with_rows es sum N
rows_all_lem es N sum last node q h = let e : node ≡ N = omega (arith, q.within) in rw e at q.is

-- for `search (rules, rows_all)`
pub ruleset rows_all = (rows_none, rows_next, rows_all_lem)

module _ (N : ℕ) (ks : List ℕ) (t : Channels) (keys rests : List ℕ) (count : ℕ) (h : Holds N ks t keys rests count) (node : ℕ) (r : Row)
    (e : r ≡ row_in (take count keys) node) where
  -- the start of a row in bytes
  pub row_scaled : Fits w64 (r.start * 8)
  row_scaled = record { fits = omega (arith, held_order N ks t keys rests count h node r e, held_keyed N ks t keys rests count h node r e, held_room_lem N ks t keys rests count h) }

  -- the entries of the row are those of the node
  pub row_summed : (last s : ℕ) → s ≡ with_all last (entries_in (take (r.end - r.start) (drop r.start keys)) (take (r.end - r.start) (drop r.start rests)))
      → s ≡ with_all last (row_of node (entries t))
  row_summed last s f = f ∙ ap (with_all last) (held_row N ks t keys rests count h node r e)

-- for `search (rules, held, rowed)`
pub ruleset rowed = (row_scaled, rests_same, row_summed)

-- all nodes are looked up i times
pub record Repeated (es : List Standing) (N count sum i : ℕ) : Type 0 where
  pub is : sum ≡ lookups es N i
  pub within : i ≤ count

-- not yet at all
pub repeat_none : (es : List Standing) (N count : ℕ) → Repeated es N count 0 0
unfolding lookups
repeat_none es N count = record { is = refl; within = omega arith }

-- once more
pub repeat_next : (es : List Standing) (N count sum i r : ℕ) → Repeated es N count sum i → i < count → r ≡ with_rows es sum N → Repeated es N count r (i + 1)
unfolding lookups
repeat_next es N count sum i r q h e = record { is = rw (add-one i, e, q.is); within = omega arith }

-- as often as asked for
pub repeat_all : (es : List Standing) (N count sum i : ℕ) → Repeated es N count sum i → count ≤ i → sum ≡ lookups es N count
repeat_all es N count sum i q h = let e : i ≡ count = omega (arith, q.within) in rw e at q.is

-- for `search (rules, repeated)`
pub ruleset repeated = (repeat_none, repeat_next, repeat_all)

module _ (t : RingTable) (h : Heading) (keys rests : List ℕ) (H : HoldsTable t h keys rests) where
  -- the lists hold the places that they are of
  pub roster_holds : Holds h.nodes h.ports (places_of keys rests h.count) keys rests h.count
  roster_holds = (held_again t h keys rests H).holds

  -- which are the table's
  pub roster_looked : (count r : ℕ) → r ≡ lookups (entries (places_of keys rests h.count)) h.nodes count → r ≡ lookups (entries t.channels) t.nodes count
  roster_looked count r e = e ∙ ap (λ u. lookups (entries u.channels) u.nodes count) (held_table t h keys rests H)

-- for `search (rules, looked_up)`
pub ruleset looked_up = (roster_holds, roster_looked)
