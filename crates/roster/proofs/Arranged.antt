-- There and back: from a table that meets the ring rules to its roster and from that to the table, and the other way round; and a roster
-- stands exactly where some table gives it. Assumes nothing.
use Prim.Native.Nat.{ℕ, ◌≤◌, ◌<◌}
use mathlib.Core.Path.{◌≡◌, refl, sym, subst, ◌∙◌}
use mathlib.Core.Logic.{◌↔◌}
use mathlib.Core.Bool.{Bool, true, not, ◌&&◌}
use mathlib.Core.List.{List, [], ◌∷◌, map}
use native.Mathlib.Omega.{arith}
use lib.Dec.{eqb, ltb}
use lib.ListN.{length, take, length-map}
use borrow.Author.Tests.{eqb-true, eq-eqb, ltb-true, lt-ltb}
use Rattle.basis.specs.Choice.{bit}
use Rattle.basis.specs.Count.{weigh, tally, All}
use Rattle.basis.proofs.Bools.{bit_passes, and_left, and_right, and_both, all_map, all_and}
use Rattle.basis.proofs.Weigh.{weigh_zero, none_weigh, counted}
use Rattle.limits.specs.Limits.{place_count, most_circuits}
use Rattle.lightpath.specs.declared.Circuit.{Circuit}
use Rattle.channels.specs.Channels.{Channels, circuits, unlit_channels}
use Rattle.channels.specs.declared.Standing.{Standing}
use Rattle.channels.proofs.Numbers.{live_placed}
use Rattle.rules.specs.Rules.{ring_rules}
use Rattle.rules.proofs.Rules.{Rules, rules_hold, limits_hold}
use Rattle.rules.proofs.Counting.{circuits_most}
use Rattle.ring.specs.Table.{meets_rules}
use Rattle.ring.specs.declared.RingTable.{RingTable}
use Rattle.entries.specs.Entry.{rest_of, entry_of, in_fields}
use Rattle.entries.proofs.Words.{entry_back, entry_fields}
use Rattle.entries.proofs.Padded.{take_padded}
use Rattle.roster.specs.Roster.{Roster, key_in, entries, arranged, entries_in, places_of, table_of, same_list, same_entries, stands}
use Rattle.roster.specs.Held.{Typed, Holds, Gives}
use Rattle.roster.specs.Listed.{Written, Lists}
use Rattle.roster.proofs.Standings.{entered, entries_weigh, entries_circuits, entries_count, entries_ordered}
use Rattle.roster.proofs.Back.{stood_back, stood_weighs}

-- 1 for a circuit that is not
abbrev outside : Circuit → ℕ
outside x = bit (not (in_fields x))

outside_none : (o : Bool) → o ≡ true → bit (not o) ≡ 0
outside_none o e = rw e

-- by weight
pub typed_weight : (t : Channels) → weigh outside (circuits t) ≡ 0 → Typed t
typed_weight t z = all_map (λ x. outside x ≡ 0) (λ x. in_fields x ≡ true) (λ x. bit_passes (in_fields x)) (circuits t) (weigh_zero outside (circuits t) z)

pub weight_typed : (t : Channels) → Typed t → weigh outside (circuits t) ≡ 0
weight_typed t h = none_weigh outside (circuits t) (all_map (λ x. in_fields x ≡ true) (λ x. outside x ≡ 0) (λ x. outside_none (in_fields x)) (circuits t) h)

-- by entries
pub typed_entries : (t : Channels) → All Written (entries t) → Typed t
typed_entries t h =
    typed_weight t
    (sym (entries_circuits t outside) ∙ none_weigh (λ m. outside m.circuit) (entries t) (all_map Written (λ m. outside m.circuit ≡ 0) (λ m w. outside_none (in_fields m.circuit) w.0) (entries t) h))

-- what is read out of keys and rests is
pub places_typed : (keys rests : List ℕ) (count : ℕ) → Typed (places_of keys rests count)
places_typed keys rests count =
    typed_weight (places_of keys rests count) (stood_weighs outside (entries_in (take count keys) (take count rests)) unlit_channels (each (take count keys) (take count rests)) refl)
  where
    each : (ks rs : List ℕ) → All (λ m. outside m.circuit ≡ 0) (entries_in ks rs)
    each [] rs = tt
    each (k ∷ ks) [] = tt
    each (k ∷ ks) (r ∷ rs) = (outside_none (in_fields (entry_of k r).circuit) (entry_fields k r), each ks rs)

-- 1 for an entry that does not come back out of two numbers
abbrev unwritten : Standing → ℕ
unwritten m = bit (not (in_fields m.circuit && ltb m.place place_count))

module _ (N : ℕ) (ks : List ℕ) (t : Channels) (rules : Rules N ks t) (typed : Typed t) where
  long : length t ≡ place_count
  long = (limits_hold N ks t rules).long

  -- the entries of a table come back
  pub entries_written : All Written (entries t)
  entries_written =
      all_map (λ m. unwritten m ≡ 0) Written good (entries t)
      (weigh_zero unwritten (entries t) (entries_weigh t rules.numbers long unwritten ∙ none_weigh (λ x. unwritten (entered t x)) (circuits t) each))
    where
      good : (m : Standing) → unwritten m ≡ 0 → Written m
      good m z =
          let e = bit_passes (in_fields m.circuit && ltb m.place place_count) z in
          (and_left _ _ e, ltb-true m.place place_count (and_right (in_fields m.circuit) _ e))

      each : All (λ x. unwritten (entered t x) ≡ 0) (circuits t)
      each =
          all_map (λ x. (in_fields x ≡ true) × (0 < tally (λ c. c.number) x.number (circuits t))) (λ x. unwritten (entered t x) ≡ 0)
          (λ x h. outside_none _ (and_both _ _ h.0 (lt-ltb _ _ (live_placed t x.number long (lt-ltb _ _ h.1))))) (circuits t)
          (all_and (λ x. in_fields x ≡ true) _ (circuits t) typed (counted (λ c. c.number) (circuits t)))

-- what goes into keys and rests comes out of them
pub entries_back : (es : List Standing) → All Written es → entries_in (map key_in es) (map rest_of es) ≡ es
entries_back [] h = refl
entries_back (m ∷ es) h = rw (entry_back m h.0.0 (omega (arith, h.0.1)), entries_back es h.1)

module _ (N : ℕ) (ks : List ℕ) (t : Channels) (keys rests : List ℕ) (count : ℕ) (h : Holds N ks t keys rests count) where
  facts : Rules N ks t
  facts = rules_hold N ks t h.rules

  -- the keys in use, and the rests
  pub held_keys : take count keys ≡ map key_in (entries t)
  held_keys = rw (h.counted, h.keyed, ← length-map (entries t) key_in) (take_padded most_circuits (map key_in (entries t)))

  pub held_rests : take count rests ≡ map rest_of (entries t)
  held_rests = rw (h.counted, h.rested, ← length-map (entries t) rest_of) (take_padded most_circuits (map rest_of (entries t)))

  -- so the lists are those of the entries
  pub holds_lists : Lists (entries t) keys rests count
  holds_lists = record {
    keyed = h.keyed;
    rested = h.rested;
    counted = h.counted;
    most = omega (arith, entries_count t, circuits_most N ks t facts);
    ordered = entries_ordered t;
    written = entries_written N ks t facts h.typed;
  }

  -- the places come back
  pub held_places : places_of keys rests count ≡ t
  held_places =
      rw (held_keys, held_rests, entries_back (entries t) (entries_written N ks t facts h.typed))
      (stood_back N ks t facts)

-- and back, where the places meet the rules
pub lists_holds : (N : ℕ) (ks : List ℕ) (t : Channels) (keys rests : List ℕ) (count : ℕ) → ring_rules N ks t ≡ true → Lists (entries t) keys rests count
    → Holds N ks t keys rests count
lists_holds N ks t keys rests count r l = record { rules = r; typed = typed_entries t l.written; keyed = l.keyed; rested = l.rested; counted = l.counted }

-- a table's roster holds it
pub arranged_holds : (t : RingTable) → meets_rules t ≡ true → Typed t.channels
    → Holds t.nodes t.ports t.channels (arranged t).keys (arranged t).rests (arranged t).heading.count
unfolding arranged
arranged_holds t meets typed = record { rules = meets; typed = typed; keyed = refl; rested = refl; counted = refl }

-- its entries have room
pub arranged_most : (t : RingTable) → meets_rules t ≡ true → (arranged t).heading.count ≤ most_circuits
unfolding arranged
arranged_most t meets = omega (arith, entries_count t.channels, circuits_most t.nodes t.ports t.channels (rules_hold t.nodes t.ports t.channels meets))

-- 02, E7: "there and back gives it again": a table that meets the ring rules, arranged and built again, is that table
pub there_and_back_lem : (t : RingTable) → meets_rules t ≡ true → Typed t.channels → table_of (arranged t) ≡ t
unfolding table_of arranged
there_and_back_lem t meets typed =
    let e = held_places t.nodes t.ports t.channels _ _ _ (arranged_holds t meets typed) in
    λ i. record { nodes = t.nodes; ports = t.ports; channels = e i }

-- lists that a test finds equal are
same_list_lem : (xs ys : List ℕ) → same_list xs ys ≡ true → xs ≡ ys
same_list_lem [] [] h = refl
same_list_lem [] (y ∷ ys) h = cc
same_list_lem (x ∷ xs) [] h = cc
same_list_lem (x ∷ xs) (y ∷ ys) h = rw (eqb-true x y (and_left _ _ h), same_list_lem xs ys (and_right (eqb x y) _ h))

list_same : (xs : List ℕ) → same_list xs xs ≡ true
list_same [] = refl
list_same (x ∷ xs) = and_both _ _ (eq-eqb x x refl) (list_same xs)

-- two rosters with the same entries have the same count, keys and rests; and a roster has its own
same_parts : (a b : Roster) → same_entries a b ≡ true → (a.heading.count ≡ b.heading.count) × (a.keys ≡ b.keys) × (a.rests ≡ b.rests)
same_parts a b e =
    let counted = and_left (eqb a.heading.count b.heading.count) (same_list a.keys b.keys) (and_left _ (same_list a.rests b.rests) e) in
    let keyed = and_right (eqb a.heading.count b.heading.count) (same_list a.keys b.keys) (and_left _ (same_list a.rests b.rests) e) in
    let rested = and_right (eqb a.heading.count b.heading.count && same_list a.keys b.keys) (same_list a.rests b.rests) e in
    (eqb-true _ _ counted, same_list_lem a.keys b.keys keyed, same_list_lem a.rests b.rests rested)

same_self : (a : Roster) → same_entries a a ≡ true
same_self a =
    and_both _ _ (and_both _ _ (eq-eqb a.heading.count a.heading.count refl) (list_same a.keys)) (list_same a.rests)

same_entries_lem : (r : Roster) → same_entries (arranged (table_of r)) r ≡ true → arranged (table_of r) ≡ r
unfolding table_of arranged
same_entries_lem r e =
    let same = same_parts (arranged (table_of r)) r e in
    λ i. record { keys = same.1 i; rests = same.2 i; heading = record { ports = r.heading.ports; nodes = r.heading.nodes; count = same.0 i } }

-- 02, E7: "there and back gives it again": a roster that stands, made a table and arranged again, is that roster
pub back_and_there : (r : Roster) → stands r ≡ true → arranged (table_of r) ≡ r
unfolding stands
back_and_there r h = same_entries_lem r (and_right (meets_rules (table_of r)) _ h)

-- a roster that stands holds its table
pub stands_rules : (r : Roster) → stands r ≡ true → meets_rules (table_of r) ≡ true
unfolding stands
stands_rules r h = and_left _ _ h

pub table_typed : (r : Roster) → Typed (table_of r).channels
unfolding table_of
table_typed r = places_typed r.keys r.rests r.heading.count

-- the roster of a table stands
pub arranged_stands : (t : RingTable) → meets_rules t ≡ true → Typed t.channels → stands (arranged t) ≡ true
unfolding stands
arranged_stands t meets typed =
    subst (λ (u : RingTable). (meets_rules u && same_entries (arranged u) (arranged t)) ≡ true) (sym (there_and_back_lem t meets typed))
    (and_both _ _ meets (same_self (arranged t)))

-- 02, E7: "An arrangement that no old table gives is met by 22.": a roster stands exactly where some table that meets the ring rules gives it
pub stands_exactly : (r : Roster) → (stands r ≡ true) ↔ Gives r
stands_exactly r = (
  λ h. record { table = table_of r; rules = stands_rules r h; typed = table_typed r; is = back_and_there r h },
  λ g. subst (λ r. stands r ≡ true) g.is (arranged_stands g.table g.rules g.typed),
)
