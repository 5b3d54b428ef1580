-- What each lookup answers: 22, 10, the row of the node, and the circuit of a number in it. Assumes nothing.
use Prim.Native.Nat.{ℕ, zero, suc, ◌-◌, ◌*◌, ◌^◌, ◌≤◌, ◌<◌}
use mathlib.Core.Path.{◌≡◌, refl, sym, ap, ◌∙◌}
use mathlib.Core.Bool.{Bool, true, false, not, ◌&&◌}
use mathlib.Core.List.{List, [], ◌∷◌}
use native.Mathlib.Omega.{arith}
use lib.Dec.{eqb}
use lib.ListN.{length, get_or, take, drop}
use lib.Seq.{take-append_seam, length-take-le, get_or-take}
use mir.Syntax.{w64}
use mir.Val.{Fits}
use borrow.Author.Tests.{not-true, not-false}
use Rattle.std.proofs.Common.{Option, Some, None, Result, Ok, Err}
use Rattle.basis.specs.Choice.{pick}
use Rattle.basis.specs.Search.{first_place}
use Rattle.basis.proofs.Bools.{all_map}
use Rattle.basis.proofs.Branch.{said}
use Rattle.limits.specs.Limits.{most_ports, most_circuits}
use Rattle.lightpath.specs.Circuit.{on_ring}
use Rattle.channels.specs.Channels.{Channels}
use Rattle.channels.specs.declared.Standing.{Standing}
use Rattle.refusals.specs.Refusal.{number_of}
use Rattle.refusals.specs.Answer.{Answer, refusal, done, ◌when◌, answer_by}
use Rattle.refusals.specs.declared.Refusal.{Refusal}
use Rattle.refusals.specs.declared.Refusal.TheVariants.{OffRing, BrokenRule}
use Rattle.rules.proofs.Rules.{rules_hold}
use Rattle.entries.specs.Entry.{entry_of, in_fields}
use Rattle.entries.specs.Lists.{Rising}
use Rattle.roster.specs.Roster.{entries_in, entries, places_of, table_of, stands}
use Rattle.roster.specs.Held.{Holds}
use Rattle.roster.specs.Listed.{Written}
use Rattle.roster.specs.declared.Roster.{Roster}
use Rattle.roster.proofs.Arranged.{entries_back, held_keys, held_rests, holds_lists}
use Rattle.roster.proofs.Holding.{held_most}
use Rattle.rows.specs.Row.{row_of, row_in, position_in}
use Rattle.rows.specs.declared.Row.{Row}
use Rattle.rows.proofs.Rows.{row_sends, position_entry}
use Rattle.rows.proofs.Held.{sends_most, held_used, held_ordered, held_order, held_keyed, held_rested, keys_long, rests_same, held_sends, held_row, held_room_lem}
use Rattle.roster_calls.proofs.Standing.{roster_holds}
use Rattle.roster_rows.specs.Lookups.{Sent, sent_by, in_room, sent_of, looked, row_of_roster, numbered, circuit_of_roster, lookup_reasons, circuit_values, row_answer, lookup_answer}
use Rattle.roster_rows.proofs.Gathering.{blank}
use Rattle.std.specs.Prelude.{Ok, Err}

-- an entry of keys and rests is of the two at its position
get_entry : (i : ℕ) (keys rests : List ℕ) (d : Standing) → i < length keys → i < length rests
    → get_or (entries_in keys rests) i d ≡ entry_of (get_or keys i 0) (get_or rests i 0)
get_entry i [] rests d h g = absurd (omega arith)
get_entry i (k ∷ keys) [] d h g = absurd (omega arith)
get_entry zero (k ∷ keys) (x ∷ rests) d h g = refl
get_entry (suc i) (k ∷ keys) (x ∷ rests) d h g = get_entry i keys rests d (omega arith) (omega arith)

-- where the entry of a node and a number stands
abbrev placed : ℕ → ℕ → List Standing → ℕ
placed node n es = first_place (λ m. eqb m.circuit.source node && eqb m.circuit.number n) es

-- it is the one of that number in the node's row
numbered_there : (node n : ℕ) (es : List Standing) (d : Standing) → placed node n es < length es → numbered n (row_of node es) ≡ Some (get_or es (placed node n es) d)
numbered_there node n [] d h = absurd (omega arith)
numbered_there node n (m ∷ es) d h = go (eqb m.circuit.source node) (eqb m.circuit.number n) refl h (numbered_there node n es d)
  where
    go : (s o : Bool) → eqb m.circuit.number n ≡ o → pick (s && o) 0 (suc (placed node n es)) < suc (length es)
        → (placed node n es < length es → numbered n (row_of node es) ≡ Some (get_or es (placed node n es) d))
        → numbered n (pick s (m ∷ row_of node es) (row_of node es)) ≡ Some (get_or (m ∷ es) (pick (s && o) 0 (suc (placed node n es))) d)
    go true true e h rest = rw e
    go true false e h rest = rw e (rest (omega arith))
    go false o e h rest = rest (omega arith)

-- and where there is none, the row has none
numbered_nowhere : (node n : ℕ) (es : List Standing) → length es ≤ placed node n es → numbered n (row_of node es) ≡ None
numbered_nowhere node n [] h = refl
numbered_nowhere node n (m ∷ es) h = go (eqb m.circuit.source node) (eqb m.circuit.number n) refl h (numbered_nowhere node n es)
  where
    go : (s o : Bool) → eqb m.circuit.number n ≡ o → suc (length es) ≤ pick (s && o) 0 (suc (placed node n es))
        → (length es ≤ placed node n es → numbered n (row_of node es) ≡ None)
        → numbered n (pick s (m ∷ row_of node es) (row_of node es)) ≡ None
    go true true e h rest = absurd (omega arith)
    go true false e h rest = rw e (rest (omega arith))
    go false o e h rest = rest (omega arith)

-- it is no refusal
numbered_done : (n : ℕ) (ms : List Standing) → lookup_answer (Ok (numbered n ms)) ≡ done (lookup_answer (Ok (numbered n ms))).values
numbered_done n [] = refl
numbered_done n (m ∷ ms) = go (eqb m.circuit.number n) (numbered_done n ms)
  where
    go : (o : Bool) → lookup_answer (Ok (numbered n ms)) ≡ done (lookup_answer (Ok (numbered n ms))).values
        → lookup_answer (Ok (pick o (Some m) (numbered n ms))) ≡ done (lookup_answer (Ok (pick o (Some m) (numbered n ms)))).values
    go true e = refl
    go false e = e

-- A roster that stands: the row of a node in it, and the position of a number.
module _ (r : Roster) (s : stands r ≡ true) where
  abbrev places : Channels
  places = places_of r.keys r.rests r.heading.count

  held : Holds r.heading.nodes r.heading.ports places r.keys r.rests r.heading.count
  held = (roster_holds r s).holds

  -- its keys in use are there and rise
  pub keys_used : r.heading.count ≤ length r.keys
  keys_used = held_used _ _ _ _ _ _ held

  pub keys_rise : Rising (take r.heading.count r.keys)
  keys_rise = held_ordered _ _ _ _ _ _ held

  few : r.heading.count ≤ most_circuits
  few = held_most _ _ _ _ (roster_holds r s)

  -- the row of a node
  module _ (node : ℕ) (w : Row) (e : w ≡ row_in (take r.heading.count r.keys) node) where
    pub row_order : w.start ≤ w.end
    row_order = held_order _ _ _ _ _ _ held node w e

    -- it ends among the keys and the rests
    pub row_keyed : w.end ≤ length r.keys
    row_keyed = held_keyed _ _ _ _ _ _ held node w e

    pub row_rested : w.end ≤ length r.rests
    row_rested = held_rested _ _ _ _ _ _ held node w e

    pub row_scaled : Fits w64 (w.start * 8)
    row_scaled = record { fits = omega (arith, row_order, row_keyed, held_room_lem _ _ _ _ _ _ held) }

    abbrev keys_of : List ℕ
    keys_of = take (w.end - w.start) (drop w.start r.keys)

    abbrev rests_of : List ℕ
    rests_of = take (w.end - w.start) (drop w.start r.rests)

    -- it has as many rests as keys, and of a node of the ring at most as many as the node has ports
    pub row_same : length rests_of ≡ length keys_of
    row_same = rests_same _ _ _ _ _ _ held node w e

    pub row_few : on_ring r.heading.nodes node ≡ true → length keys_of ≤ most_ports
    row_few on =
        omega (
          arith,
          keys_long _ _ _ _ _ _ held node w e,
          held_sends _ _ _ _ _ _ held node w e,
          sends_most r.heading.nodes r.heading.ports places (rules_hold r.heading.nodes r.heading.ports places held.rules) node on,
        )

    -- it has the circuits that the node sends
    row_has : entries_in keys_of rests_of ≡ sent_by r node
    unfolding table_of
    row_has = held_row _ _ _ _ _ _ held node w e

    row_counts : w.end - w.start ≡ length (sent_by r node)
    unfolding table_of
    row_counts = held_sends _ _ _ _ _ _ held node w e ∙ sym (row_sends node places)

  -- the position of a number in it
  module _ (node n : ℕ) (small : n < 2 ^ 32) where
    abbrev es : List Standing
    es = entries places

    abbrev used : List ℕ
    used = take r.heading.count r.keys

    many : length used ≡ r.heading.count
    many = length-take-le r.heading.count r.keys keys_used

    here : position_in used node n ≡ placed node n es
    here =
        let l = holds_lists _ _ _ _ _ _ held in
        ap (λ keys. position_in keys node n) (held_keys _ _ _ _ _ _ held)
        ∙ position_entry node n es small (all_map Written (λ m. in_fields m.circuit ≡ true) (λ m w. w.0) es l.written)

    -- nowhere, or at an entry
    number_none : position_in used node n ≡ length used → numbered n (sent_by r node) ≡ None
    unfolding table_of
    number_none h = numbered_nowhere node n es (omega (arith, here, many, held.counted))

    module _ (at : ℕ) (f : (at ≡ position_in used node n) × (at < length used)) where
      h : at < r.heading.count
      h = omega (arith, f.1, many)

      pub number_index : at < most_circuits
      number_index = omega (arith, f.1, many, few)

      number_there : numbered n (sent_by r node) ≡ Some (entry_of (get_or r.keys at 0) (get_or r.rests at 0))
      unfolding table_of
      number_there = numbered_there node n es blank (omega (arith, here, f.0, f.1, many, held.counted)) ∙ ap Some (rw (← here, ← f.0) entry)
        where
          count : ℕ
          count = r.heading.count

          long : (length (take count r.keys) ≡ count) × (length (take count r.rests) ≡ count)
          long = let room = held_room_lem _ _ _ _ _ _ held in (length-take-le count r.keys (omega (arith, few, room)), length-take-le count r.rests (omega (arith, few, room)))

          back : entries_in (take count r.keys) (take count r.rests) ≡ es
          back = (λ i. entries_in (held_keys _ _ _ _ _ _ held i) (held_rests _ _ _ _ _ _ held i)) ∙ entries_back es (holds_lists _ _ _ _ _ _ held).written

          entry : get_or es at blank ≡ entry_of (get_or r.keys at 0) (get_or r.rests at 0)
          entry =
              ap (λ l. get_or l at blank) (sym back)
              ∙ get_entry at (take count r.keys) (take count r.rests) blank (omega (arith, long)) (omega (arith, long))
              ∙ rw (get_or-take count r.keys at 0 h, get_or-take count r.rests at 0 h)

-- The answers.
module _ (r : Roster) (node : ℕ) where
  -- a lookup in numbers: f of its answer and of its refusals
  in_numbers_lem : {A : Type 0} (f : A → Answer) (refuse : Refusal → A) (answer : A) (vs : List ℕ) → ((x : Refusal) → f (refuse x) ≡ refusal (number_of x)) → f answer ≡ done vs
      → f (looked r node refuse answer) ≡ answer_by (lookup_reasons r node) vs
  in_numbers_lem f refuse answer vs turned served = go (stands r) (on_ring (table_of r).nodes node)
    where
      go : (a b : Bool) → f (pick a (pick b answer (refuse OffRing)) (refuse BrokenRule)) ≡ answer_by ((22 when not a) ∷ (10 when not b) ∷ []) vs
      go true true = served
      go true false = turned OffRing
      go false b = turned BrokenRule

  -- what a lookup of a row is to be, and of a number in it
  abbrev pub RowAnswered : Sent → Type 0
  RowAnswered s = (s ≡ row_of_roster r node) × (row_answer s ≡ answer_by (lookup_reasons r node) (circuit_values (sent_by r node)))

  abbrev pub CircuitAnswered : ℕ → Result (Option Standing) Refusal → Type 0
  CircuitAnswered n a = (a ≡ circuit_of_roster r node n) × (lookup_answer a ≡ answer_by (lookup_reasons r node) (lookup_answer (Ok (numbered n (sent_by r node)))).values)

  -- what is as defined has these numbers
  row_is : (s : Sent) → s ≡ row_of_roster r node → RowAnswered s
  unfolding row_of_roster
  row_is s e = (
    e,
    ap row_answer e
        ∙ in_numbers_lem row_answer (λ x. sent_of [] (Err x)) (sent_of (sent_by r node) (Ok tt)) (circuit_values (sent_by r node)) (λ x. refl) (rw (take-append_seam (sent_by r node))),
  )

  circuit_is : (n : ℕ) (a : Result (Option Standing) Refusal) → a ≡ circuit_of_roster r node n → CircuitAnswered n a
  unfolding circuit_of_roster
  circuit_is n a e = (
    e,
    ap lookup_answer e ∙ in_numbers_lem lookup_answer (λ x. Err x) (Ok (numbered n (sent_by r node))) _ (λ x. refl) (numbered_done n (sent_by r node)),
  )

  -- a roster that does not stand is met by 22
  module _ (fails : stands r ≡ false) where
    pub row_fails : (s : Sent) → s ≡ sent_of [] (Err BrokenRule) → RowAnswered s
    unfolding row_of_roster
    row_fails s e = row_is s (e ∙ rw fails)

    pub circuit_fails : (n : ℕ) → CircuitAnswered n (Err BrokenRule)
    unfolding circuit_of_roster
    circuit_fails n = circuit_is n (Err BrokenRule) (rw fails)

  module _ (s : stands r ≡ true) where
    -- then a node off the ring by 10
    module _ (off : on_ring r.heading.nodes node ≡ false) where
      pub row_off : (a : Sent) → a ≡ sent_of [] (Err OffRing) → RowAnswered a
      unfolding row_of_roster table_of
      row_off a e = row_is a (e ∙ rw (s, off))

      pub circuit_off : (n : ℕ) → CircuitAnswered n (Err OffRing)
      unfolding circuit_of_roster table_of
      circuit_off n = circuit_is n (Err OffRing) (rw (s, off))

    module _ (on : on_ring r.heading.nodes node ≡ true) where
      inside : on_ring (table_of r).nodes node ≡ true
      unfolding table_of
      inside = on

      -- the row of a node of the ring, gathered from its start to its end
      pub row_there : (w : Row) → w ≡ row_in (take r.heading.count r.keys) node → (list : List Standing)
          → list ≡ in_room (entries_in (take (w.end - w.start) (drop w.start r.keys)) (take (w.end - w.start) (drop w.start r.rests)))
          → RowAnswered (record { list = list; count = w.end - w.start; verdict = Ok tt })
      unfolding row_of_roster
      row_there w e list l = row_is _ (same ∙ rw (s, inside))
        where
          same : ◌≡◌ {A = Sent} (record { list = list; count = w.end - w.start; verdict = Ok tt }) (sent_of (sent_by r node) (Ok tt))
          same = λ i. record { list = (l ∙ ap in_room (row_has r s node w e)) i; count = row_counts r s node w e i; verdict = Ok tt }

      -- and the circuit of a number in it
      module _ (n : ℕ) (small : n < 2 ^ 32) where
        pub circuit_none : position_in (take r.heading.count r.keys) node n ≡ length (take r.heading.count r.keys) → CircuitAnswered n (Ok None)
        unfolding circuit_of_roster
        circuit_none h = circuit_is n (Ok None) (ap Ok (sym (number_none r s node n small h)) ∙ rw (s, inside))

        pub circuit_there : (at : ℕ) → (at ≡ position_in (take r.heading.count r.keys) node n) × (at < length (take r.heading.count r.keys)) → (m : Standing)
            → m ≡ entry_of (get_or r.keys at 0) (get_or r.rests at 0) → CircuitAnswered n (Ok (Some m))
        unfolding circuit_of_roster
        circuit_there at h m f = circuit_is n (Ok (Some m)) (ap Ok (ap Some f ∙ sym (number_there r s node n small at h)) ∙ rw (s, inside))

-- for `search (rules, looking)`
pub ruleset looking = (keys_used, keys_rise, row_order, row_keyed, row_rested, row_scaled, row_same, row_few, said, not-true, not-false)
