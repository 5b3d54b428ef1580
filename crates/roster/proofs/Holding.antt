-- A table's entries put into lent lists, and the table that lists are of. Assumes nothing.
use Prim.Native.Nat.{ℕ, ◌≤◌, ◌<◌}
use mathlib.Core.Path.{◌≡◌, refl, sym, ◌∙◌}
use mathlib.Core.Bool.{true}
use mathlib.Core.List.{List, []}
use native.Mathlib.Omega.{arith}
use lib.ListN.{length, replicate}
use Rattle.limits.specs.Limits.{most_circuits}
use Rattle.channels.specs.Channels.{Channels}
use Rattle.ring.specs.Table.{meets_rules}
use Rattle.ring.specs.declared.RingTable.{RingTable}
use Rattle.roster.specs.Roster.{Heading, Roster, entries, arranged, table_of, places_of, stands}
use Rattle.roster.specs.Held.{table_in, HoldsTable}
use Rattle.roster.specs.Listed.{Lists}
use Rattle.roster.proofs.Arranged.{lists_holds, held_places, holds_lists, there_and_back_lem, arranged_stands}
use Rattle.roster.proofs.Building.{blank_lists, room_for_all, numbers_apart}
use Rattle.roster.proofs.Listing.{lists_room}

-- lists of zeros of the length of a roster have no entry
pub cleared_lists : (k₀ r₀ keys rests : List ℕ) → length k₀ ≡ most_circuits → length r₀ ≡ most_circuits → keys ≡ replicate (length k₀) 0
    → rests ≡ replicate (length r₀) 0 → Lists [] keys rests 0
cleared_lists k₀ r₀ keys rests a b e f = rw (e, f, a, b) blank_lists

module _ (t : RingTable) (meets : meets_rules t ≡ true) (keys rests : List ℕ) (count : ℕ) (h : Lists (entries t.channels) keys rests count) where
  pub hold_byte : count < 256
  hold_byte = omega (arith, h.counted, h.most)

  pub hold_table : HoldsTable t (record { ports = t.ports; nodes = t.nodes; count = count }) keys rests
  hold_table = record { nodes = refl; ports = refl; holds = lists_holds t.nodes t.ports t.channels keys rests count meets h }

  -- the lists are as long as they were
  pub hold_keys : (k₀ : List ℕ) → length k₀ ≡ most_circuits → length keys ≡ length k₀
  hold_keys k₀ e = (lists_room (entries t.channels) keys rests count h).0 ∙ sym e

  pub hold_rests : (r₀ : List ℕ) → length r₀ ≡ most_circuits → length rests ≡ length r₀
  hold_rests r₀ e = (lists_room (entries t.channels) keys rests count h).1 ∙ sym e

-- the roster made of lists that hold a table
abbrev made : List ℕ → List ℕ → Heading → Roster
made keys rests h = record { keys = keys; rests = rests; heading = h }

module _ (t : RingTable) (meets : meets_rules t ≡ true) (keys rests : List ℕ) (h : Heading) (H : HoldsTable t h keys rests) where
  pub made_arranged : made keys rests h ≡ arranged t
  unfolding arranged
  made_arranged = λ i. record {
    keys = H.holds.keyed i;
    rests = H.holds.rested i;
    heading = record { ports = H.ports i; nodes = H.nodes i; count = H.holds.counted i };
  }

  pub made_back : (stands (made keys rests h) ≡ true) × (table_of (made keys rests h) ≡ t)
  made_back = rw made_arranged (arranged_stands t meets H.holds.typed, there_and_back_lem t meets H.holds.typed)

-- for `search (rules, holding)`
pub ruleset holding = (room_for_all, numbers_apart, cleared_lists, hold_byte, hold_table, hold_keys, hold_rests)

pub read_table_lem : (h : Heading) (keys rests : List ℕ) (chs : Channels) → chs ≡ places_of keys rests h.count
    → record { channels = chs; ports = h.ports; nodes = h.nodes } ≡ table_in h keys rests
read_table_lem h keys rests chs e = rw e

module _ (t : RingTable) (h : Heading) (keys rests : List ℕ) (H : HoldsTable t h keys rests) where
  -- the lists give the table back
  pub held_table : table_in h keys rests ≡ t
  held_table =
      let e = held_places t.nodes t.ports t.channels keys rests h.count H.holds in
      λ i. record { nodes = H.nodes i; ports = H.ports i; channels = e i }

  -- so they hold the table that they give
  pub held_again : HoldsTable (table_in h keys rests) h keys rests
  held_again = rw held_table H

  -- and are as long as a roster
  pub held_long : (length keys ≡ most_circuits) × (length rests ≡ most_circuits)
  held_long = lists_room (entries t.channels) keys rests h.count (holds_lists t.nodes t.ports t.channels keys rests h.count H.holds)

  pub held_most : h.count ≤ most_circuits
  held_most = let l = holds_lists t.nodes t.ports t.channels keys rests h.count H.holds in omega (arith, l.counted, l.most)
