-- What keys and rests that hold the entries of a table say: of each entry, of each place, and in all. Assumes nothing.
use Prim.Native.Nat.{ℕ, zero, suc, ◌+◌, ◌<◌}
use mathlib.Core.Path.{◌≡◌, refl, sym, ap, ◌∙◌}
use mathlib.Core.Bool.{Bool, true, false}
use mathlib.Core.List.{List, [], ◌∷◌}
use native.Mathlib.Omega.{arith}
use lib.Dec.{eqb, ltb}
use lib.ListN.{length, get_or, take, get_or-map}
use lib.Seq.{get_or-take}
use borrow.Author.Tests.{eqb-true, eq-eqb}
use Rattle.basis.specs.Choice.{pick, bit}
use Rattle.basis.specs.Count.{weigh, tally}
use Rattle.basis.proofs.Bools.{all_map}
use Rattle.basis.proofs.Search.{all_at}
use Rattle.basis.proofs.Weigh.{weigh_map, weigh_same, keyed_none, counted}
use Rattle.lightpath.specs.Circuit.{blank_circuit}
use Rattle.lightpath.specs.declared.Circuit.{Circuit}
use Rattle.lightpath.proofs.Same.{same_circuit}
use Rattle.slots.specs.Slot.{held, is_lit}
use Rattle.slots.specs.declared.Slot.{Slot}
use Rattle.slots.specs.declared.Slot.TheVariants.{Unlit as unlit, Alone as alone, Shared as shared}
use Rattle.lit_words.specs.Lit.{words_of}
use Rattle.channels.specs.Channels.{Channels, at, circuits, numbered, lit_of}
use Rattle.channels.specs.declared.Standing.{Standing}
use Rattle.ports_used.specs.PortsUsed.{receives}
use Rattle.entries.specs.Entry.{key_of, rest_of, entry_of}
use Rattle.entries.proofs.Words.{key_number, rest_place, rest_destination, entry_back}
use Rattle.roster.specs.Roster.{key_in, entries}
use Rattle.roster.specs.Held.{Holds}
use Rattle.roster.specs.Listed.{Written, Lists}
use Rattle.roster.proofs.Standings.{entries_circuits, of_place, entries_at}
use Rattle.roster.proofs.Arranged.{held_keys, held_rests, holds_lists}
use Rattle.rows.proofs.Held.{held_room_lem}
use Rattle.roster_survey.specs.Pass.{number_in, place_in, destination_in, stand_at, lit_in, Entered, place_at}

abbrev blank_entry : Standing
blank_entry = record { place = 0; circuit = blank_circuit }

-- one that stands at place p, where some do
record Placed (p : ℕ) (es : List Standing) : Type 0 where
  position : ℕ
  within : position < length es
  stands : (get_or es position blank_entry).place ≡ p

placed : (p : ℕ) (es : List Standing) → 0 < tally (λ m. m.place) p es → Placed p es
placed p [] h = absurd (omega arith)
placed p (m ∷ es) h = go (eqb m.place p) refl (placed p es)
  where
    go : (o : Bool) → eqb m.place p ≡ o → (0 < tally (λ m. m.place) p es → Placed p es) → Placed p (m ∷ es)
    go true e rest = record { position = 0; within = omega arith; stands = eqb-true m.place p e }
    go false e rest =
        let r = rest (omega (arith, rw e at h)) in
        record { position = suc r.position; within = omega (arith, r.within); stands = r.stands }

-- where one alone stands at a place, it has all the weight there
lone_weighs : (w : Circuit → ℕ) (p : ℕ) (es : List Standing) (j : ℕ) → tally (λ m. m.place) p es ≡ 1 → j < length es → (get_or es j blank_entry).place ≡ p
    → weigh (of_place w p) es ≡ w (get_or es j blank_entry).circuit
lone_weighs w p [] j one l e = absurd (omega arith)
lone_weighs w p (m ∷ es) zero one l e =
    let here = eq-eqb m.place p e in
    rw here (omega (arith, keyed_none (λ m. m.place) p (λ m. w m.circuit) es (omega (arith, rw here at one))))
lone_weighs w p (m ∷ es) (suc j) one l e = go (eqb m.place p) refl (λ o. lone_weighs w p es j o (omega arith) e)
  where
    there : 0 < tally (λ m. m.place) p es
    there = rw e at (all_at (λ m. 0 < tally (λ m. m.place) m.place es) blank_entry es (counted (λ m. m.place) es) j (omega arith))

    go : (o : Bool) → eqb m.place p ≡ o → (tally (λ m. m.place) p es ≡ 1 → weigh (of_place w p) es ≡ w (get_or es j blank_entry).circuit)
        → pick o (w m.circuit) 0 + weigh (of_place w p) es ≡ w (get_or es j blank_entry).circuit
    go true o rest = absurd (omega (arith, rw o at one, there))
    go false o rest = omega (arith, rest (omega (arith, rw o at one)))

-- one of the first count stands at place p
pub record Found (rests : List ℕ) (count p : ℕ) : Type 0 where
  pub position : ℕ
  pub within : position < count
  pub stands : place_at rests position ≡ p

module _ (N : ℕ) (ks : List ℕ) (t : Channels) (keys rests : List ℕ) (count : ℕ) (h : Holds N ks t keys rests count) where
  lists : Lists (entries t) keys rests count
  lists = holds_lists N ks t keys rests count h

  -- how many have a number, and how many go to a node
  pub held_numbered : (n : ℕ) → tally number_in n (take count keys) ≡ numbered n (circuits t)
  held_numbered n =
      rw (held_keys N ks t keys rests count h)
      (weigh_map (λ k. bit (eqb (number_in k) n)) key_in (entries t)
      ∙ weigh_same _ (λ m. bit (eqb m.circuit.number n)) (entries t)
      (all_map Written _ (λ m w. ap (λ (x : ℕ). bit (eqb x n)) (key_number m.circuit w.0)) (entries t) lists.written)
      ∙ entries_circuits t (λ c. bit (eqb c.number n)))

  pub held_received : (d : ℕ) → tally destination_in d (take count rests) ≡ receives d (circuits t)
  held_received d =
      rw (held_rests N ks t keys rests count h)
      (weigh_map (λ r. bit (eqb (destination_in r) d)) rest_of (entries t)
      ∙ weigh_same _ (λ m. bit (eqb m.circuit.destination d)) (entries t)
      (all_map Written _ (λ m w. ap (λ (x : ℕ). bit (eqb x d)) (rest_destination m w.0 (omega (arith, w.1)))) (entries t) lists.written)
      ∙ entries_circuits t (λ c. bit (eqb c.destination d)))

  -- how many stand at a place
  place_entries : (p : ℕ) → stand_at (take count rests) p ≡ tally (λ m. m.place) p (entries t)
  place_entries p =
      rw (held_rests N ks t keys rests count h)
      (weigh_map (λ r. bit (eqb (place_in r) p)) rest_of (entries t)
      ∙ weigh_same _ (λ m. bit (eqb m.place p)) (entries t)
      (all_map Written _ (λ m w. ap (λ (x : ℕ). bit (eqb x p)) (rest_place m (omega (arith, w.1)))) (entries t) lists.written))

  entries_held : (p : ℕ) → tally (λ m. m.place) p (entries t) ≡ weigh (λ x. 1) (held (at t p))
  entries_held p = ones (entries t) ∙ entries_at t (λ x. 1) p
    where
      one : (o : Bool) → bit o ≡ pick o 1 0
      one true = refl
      one false = refl

      ones : (es : List Standing) → tally (λ m. m.place) p es ≡ weigh (of_place (λ x. 1) p) es
      ones [] = refl
      ones (m ∷ es) = omega (arith, one (eqb m.place p), ones es)

  pub held_at : (p : ℕ) → stand_at (take count rests) p ≡ weigh (λ x. 1) (held (at t p))
  held_at p = place_entries p ∙ entries_held p

  -- the lit places
  pub held_lit : words_of (lit_in (take count rests)) ≡ lit_of t
  held_lit = λ i. words_of (λ p. (ap (λ (n : ℕ). ltb 0 n) (held_at p) ∙ lit (at t p)) i)
    where
      lit : (s : Slot) → ltb 0 (weigh (λ x. 1) (held s)) ≡ is_lit s
      lit unlit = refl
      lit (alone a) = refl
      lit (shared a b) = refl

  -- the entry at a position
  module _ (j : ℕ) (l : j < count) where
    abbrev entry_at : Standing
    entry_at = get_or (entries t) j blank_entry

    inside : j < length (entries t)
    inside = omega (arith, h.counted)

    is_written : Written entry_at
    is_written = all_at Written blank_entry (entries t) lists.written j inside

    key_at : get_or keys j 0 ≡ key_in entry_at
    unfolding key_of
    key_at = sym (get_or-take count keys j 0 l) ∙ ap (λ k. get_or k j 0) (held_keys N ks t keys rests count h) ∙ get_or-map key_in (entries t) j blank_entry

    rest_at : get_or rests j 0 ≡ rest_of entry_at
    unfolding rest_of
    rest_at = sym (get_or-take count rests j 0 l) ∙ ap (λ k. get_or k j 0) (held_rests N ks t keys rests count h) ∙ get_or-map rest_of (entries t) j blank_entry

    place_at_lem : place_at rests j ≡ entry_at.place
    place_at_lem = ap place_in rest_at ∙ rest_place entry_at (omega (arith, is_written.1))

    back : entry_of (get_or keys j 0) (get_or rests j 0) ≡ entry_at
    back = rw (key_at, rest_at) (entry_back entry_at is_written.0 (omega (arith, is_written.1)))

    pub held_place : (entry_of (get_or keys j 0) (get_or rests j 0)).place ≡ place_at rests j
    held_place = ap (λ (m : Standing). m.place) back ∙ sym place_at_lem

    -- its place is not unlit
    pub held_some : 0 < weigh (λ x. 1) (held (at t (place_at rests j)))
    held_some =
        rw place_at_lem
        (rw (entries_held entry_at.place) at
        (all_at (λ m. 0 < tally (λ m. m.place) m.place (entries t)) blank_entry (entries t) (counted (λ m. m.place) (entries t)) j inside))

    -- where it stands alone, it is the circuit there
    pub held_alone : (a : Circuit) → at t (place_at rests j) ≡ alone a → (entry_of (get_or keys j 0) (get_or rests j 0)).circuit ≡ a
    held_alone a e =
        ap (λ (m : Standing). m.circuit) back
        ∙ same_circuit entry_at.circuit a (λ w.
        sym (lone_weighs w (place_at rests j) (entries t) j (entries_held (place_at rests j) ∙ rw e refl) inside (sym place_at_lem))
        ∙ entries_at t w (place_at rests j) ∙ rw e (omega arith))

  -- at a place that is not unlit some entry stands
  pub held_found : (p : ℕ) → 0 < weigh (λ x. 1) (held (at t p)) → Found rests count p
  held_found p l =
      let r = placed p (entries t) (omega (arith, entries_held p)) in
      let i : r.position < count = omega (arith, r.within, h.counted) in
      record { position = r.position; within = i; stands = place_at_lem r.position i ∙ r.stands }

  -- the keys and rests are entries
  pub held_entered : Entered keys rests count
  held_entered = record {
    keyed = omega (arith, lists.counted, lists.most, held_room_lem N ks t keys rests count h);
    rested = omega (arith, lists.counted, lists.most, held_room_lem N ks t keys rests count h);
    few = omega (arith, lists.counted, lists.most);
    below = λ i l. omega (arith, place_at_lem i l, (is_written i l).1);
  }
