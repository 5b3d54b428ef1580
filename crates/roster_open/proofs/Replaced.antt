-- Moved circuits found by their numbers among keys, and their rests with the new places. Assumes nothing.
use Prim.Native.Nat.{ℕ, zero, suc, ◌+◌, ◌≤◌, ◌<◌}
use mathlib.Core.Path.{◌≡◌, refl, sym, ap, ◌∙◌}
use mathlib.Core.Bool.{Bool, true, false}
use mathlib.Core.List.{List, [], ◌∷◌, ◌++◌, map}
use native.Mathlib.Omega.{arith}
use lib.Dec.{eqb}
use lib.ListN.{length, get_or, take, drop, set, length-map}
use lib.Seq.{take-suc, take_all}
use native.Mathlib.Numerals.{add-one}
use Rattle.std.proofs.Common.{min}
use Rattle.std.proofs.lemmas.List.{length-take, take_min}
use Rattle.basis.specs.Choice.{pick, bit}
use Rattle.basis.specs.Count.{tally, All}
use Rattle.basis.specs.Search.{first_place}
use Rattle.basis.proofs.Bools.{all_left, all_right}
use Rattle.basis.proofs.Compare.{eqb_swap}
use Rattle.limits.specs.Limits.{place_count, most_circuits}
use Rattle.channels.specs.declared.Standing.{Standing}
use Rattle.moves.specs.declared.Move.{Move}
use Rattle.moves.specs.declared.Moves.{Moves}
use Rattle.moves.specs.Records.{listed}
use Rattle.entries.specs.Entry.{rest_of, placed_at}
use Rattle.entries.specs.Lists.{padded, numbered_at, take_out}
use Rattle.entries.proofs.Words.{key_number, placed_rest}
use Rattle.entries.proofs.Padded.{get_padded, set_padded, take_out_padded}
use Rattle.roster.specs.Roster.{key_in}
use Rattle.roster.specs.Listed.{Written, Lists}
use Rattle.roster.proofs.Listing.{lists_keys}
use Rattle.roster_open.specs.InPlace.{replaced, replaced_all, Single, Replaces}
use Rattle.roster_open.proofs.Moved.{number_in, same_circuit_in, replaced_ordered, without_at, without_ordered, without_written}

-- the position of a number among the keys is that among the entries
number_place : (n : ℕ) (es : List Standing) → All Written es → numbered_at n (map key_in es) ≡ first_place (λ e. eqb (number_in e) n) es
unfolding numbered_at
number_place n [] w = refl
number_place n (e ∷ es) w = rw (key_number e.circuit w.0.0, number_place n es w.1)

-- so it is where lists have the entries
pub taken_number : (n : ℕ) (es : List Standing) (keys rests : List ℕ) (count at : ℕ) → Lists es keys rests count → at ≡ numbered_at n (take count keys)
    → at ≡ first_place (λ e. eqb (number_in e) n) es
taken_number n es keys rests count at h is = is ∙ rw (lists_keys es keys rests count h) (number_place n es h.written)

-- an entry of another number is as it was
other : (m : Move) (e : Standing) → eqb (number_in e) m.number ≡ false → replaced m e ≡ e
other m e f = rw (eqb_swap m.number (number_in e), f)

-- and all are where none has the number
others : (m : Move) (es : List Standing) → tally number_in m.number es ≡ 0 → map (replaced m) es ≡ es
others m [] z = refl
others m (e ∷ es) z = go (eqb (number_in e) m.number) refl (others m es (omega arith))
  where
    go : (o : Bool) → eqb (number_in e) m.number ≡ o → map (replaced m) es ≡ es → map (replaced m) (e ∷ es) ≡ e ∷ es
    go true f r = absurd (omega (arith, rw f at z))
    go false f r = rw (other m e f, r)

-- where none is found, none has it
pub found_none : (n : ℕ) (es : List Standing) → length es ≤ first_place (λ e. eqb (number_in e) n) es → tally number_in n es ≡ 0
found_none n [] l = refl
found_none n (e ∷ es) l = go (eqb (number_in e) n) refl (found_none n es)
  where
    go : (o : Bool) → eqb (number_in e) n ≡ o → (length es ≤ first_place (λ e. eqb (number_in e) n) es → tally number_in n es ≡ 0) → bit o + tally number_in n es ≡ 0
    go true f r = absurd (omega (arith, rw f at l))
    go false f r = omega (arith, r (omega (arith, rw f at l)))

-- and where one is, one has it
pub found_some : (n : ℕ) (es : List Standing) → first_place (λ e. eqb (number_in e) n) es < length es → 0 < tally number_in n es
found_some n [] l = absurd (omega arith)
found_some n (e ∷ es) l = go (eqb (number_in e) n) refl (found_some n es)
  where
    go : (o : Bool) → eqb (number_in e) n ≡ o → (first_place (λ e. eqb (number_in e) n) es < length es → 0 < tally number_in n es) → 0 < bit o + tally number_in n es
    go true f r = omega arith
    go false f r = omega (arith, r (omega (arith, rw f at l)))

-- the rests after a move, where its number stands once
rests_moved : (m : Move) (es : List Standing) → All Written es → tally number_in m.number es ≤ 1 → (i : ℕ) → i ≡ first_place (λ e. eqb (number_in e) m.number) es
    → i < length es → set (map rest_of es) i (placed_at (get_or (map rest_of es) i 0) m.to.0) ≡ map rest_of (map (replaced m) es)
rests_moved m [] w h i is l = absurd (omega arith)
rests_moved m (e ∷ es) w h i is l = go (eqb (number_in e) m.number) refl (rests_moved m es w.1)
  where
    go : (o : Bool) → eqb (number_in e) m.number ≡ o
        → (tally number_in m.number es ≤ 1 → (i : ℕ) → i ≡ first_place (λ e. eqb (number_in e) m.number) es → i < length es
        → set (map rest_of es) i (placed_at (get_or (map rest_of es) i 0) m.to.0) ≡ map rest_of (map (replaced m) es))
        → set (map rest_of (e ∷ es)) i (placed_at (get_or (map rest_of (e ∷ es)) i 0) m.to.0) ≡ map rest_of (map (replaced m) (e ∷ es))
    go true f r =
        let z : i ≡ 0 = rw f at is in
        rw (z, placed_rest e m.to.0 (omega (arith, w.0.1)), others m es (omega (arith, rw f at h)), eqb_swap m.number (number_in e), f)
    go false f r =
        let j = rw f at is in
        rw (j, other m e f, r (omega (arith, rw f at h)) (first_place (λ e. eqb (number_in e) m.number) es) refl (omega (arith, rw f at is)))

keys_moved : (m : Move) (es : List Standing) → map key_in (map (replaced m) es) ≡ map key_in es
keys_moved m [] = refl
keys_moved m (e ∷ es) = rw (same_circuit_in m e, keys_moved m es)

written_moved : (m : Move) (es : List Standing) → m.to.0 < place_count → All Written es → All Written (map (replaced m) es)
written_moved m [] l w = tt
written_moved m (e ∷ es) l w = (one (eqb m.number (number_in e)), written_moved m es l w.1)
  where
    one : (o : Bool) → Written (pick o (record { place = m.to.0; circuit = e.circuit }) e)
    one true = (w.0.0, l)
    one false = w.0

-- one move
module _ (keys rests : List ℕ) (count : ℕ) (m : Move) where
  pub replace_at : (at v : ℕ) → (at ≡ numbered_at m.number (take count keys)) × (at < length (take count keys)) → v ≡ placed_at (get_or rests at 0) m.to.0
      → Replaces (m ∷ []) keys rests count (set rests at v)
  replace_at at v found e = record { after = after }
    where
      after : (es : List Standing) → Single es → All (λ m. m.to.0 < place_count) (m ∷ []) → Lists es keys rests count
          → Lists (map (replaced m) es) keys (set rests at v) count
      after es single there h =
          let place = taken_number m.number es keys rests count at h found.0 in
          let within : at < length es = omega (arith, length-take count keys, found.1, h.counted) in
          let read : get_or rests at 0 ≡ get_or (map rest_of es) at 0 =
          rw h.rested (get_padded most_circuits at (map rest_of es) (omega (arith, length-map es rest_of))) in
          record {
            keyed = h.keyed ∙ ap (padded most_circuits) (sym (keys_moved m es));
            rested =
                rw (e, read, h.rested)
                (set_padded most_circuits at (placed_at (get_or (map rest_of es) at 0) m.to.0) (map rest_of es) (omega (arith, length-map es rest_of)))
                ∙ ap (padded most_circuits) (rests_moved m es h.written (single m.number) at place within);
            counted = h.counted ∙ sym (length-map es (replaced m));
            most = omega (arith, h.most, length-map es (replaced m));
            ordered = replaced_ordered m es h.ordered;
            written = written_moved m es there.0 h.written;
          }

  pub replace_none : numbered_at m.number (take count keys) ≡ length (take count keys) → Replaces (m ∷ []) keys rests count rests
  replace_none none = record { after = after }
    where
      after : (es : List Standing) → Single es → All (λ m. m.to.0 < place_count) (m ∷ []) → Lists es keys rests count
          → Lists (map (replaced m) es) keys rests count
      after es single there h =
          let place = taken_number m.number es keys rests count (length (take count keys)) h (sym none) in
          let all : length (take count keys) ≡ length es = ap length (lists_keys es keys rests count h) ∙ length-map es key_in in
          rw (others m es (found_none m.number es (omega (arith, place, all)))) h

-- several, one after the other
single_moved : (m : Move) (es : List Standing) → Single es → Single (map (replaced m) es)
single_moved m es h n = omega (arith, same es, h n)
  where
    same : (es : List Standing) → tally number_in n (map (replaced m) es) ≡ tally number_in n es
    same [] = refl
    same (e ∷ es) = omega (arith, ap (λ c. bit (eqb c.number n)) (same_circuit_in m e), same es)

single_all : (ms : List Move) (es : List Standing) → Single es → Single (replaced_all ms es)
single_all [] es h = h
single_all (m ∷ ms) es h = single_all ms (map (replaced m) es) (single_moved m es h)

replaced_append : (ms : List Move) (m : Move) (es : List Standing) → replaced_all (ms ++ (m ∷ [])) es ≡ map (replaced m) (replaced_all ms es)
replaced_append [] m es = refl
replaced_append (n ∷ ms) m es = replaced_append ms m (map (replaced n) es)

pub replaces_start : (ms : List Move) (keys rests : List ℕ) (count : ℕ) → Replaces (take 0 ms) keys rests count rests
replaces_start ms keys rests count = record { after = λ es single there h. h }

pub replaces_next : (ms : List Move) (d : Move) (i : ℕ) (keys rests rests' rests'' : List ℕ) (count : ℕ) → i < length ms → Replaces (take i ms) keys rests count rests'
    → Replaces (get_or ms i d ∷ []) keys rests' count rests'' → Replaces (take (i + 1) ms) keys rests count rests''
replaces_next ms d i keys rests rests' rests'' count l f g =
    rw (add-one, take-suc ms i d l) (record {
      after = λ es single there h.
          let front = all_left (λ m. m.to.0 < place_count) (take i ms) (get_or ms i d ∷ []) there in
          let last = all_right (λ m. m.to.0 < place_count) (take i ms) (get_or ms i d ∷ []) there in
          rw replaced_append (g.after (replaced_all (take i ms) es) (single_all (take i ms) es single) last (f.after es single front h));
    })

-- the first of three, as many as there are
pub replaces_listed : (a : Moves) (n i : ℕ) (keys rests rests' : List ℕ) (count : ℕ) → n ≡ min a.count 3 → length (take n (a.first ∷ a.second ∷ a.third ∷ [])) ≤ i
    → Replaces (take i (take n (a.first ∷ a.second ∷ a.third ∷ []))) keys rests count rests' → Replaces (listed a) keys rests count rests'
replaces_listed a n i keys rests rests' count e l f =
    let all : List Move = a.first ∷ a.second ∷ a.third ∷ [] in
    let whole : take i (take n all) ≡ take n all = take_all i (take n all) l in
    let same : take n all ≡ listed a = rw e (take_min a.count all) in
    rw (whole, same) at f

map_without : {B : Type 0} (f : Standing → B) (i : ℕ) (es : List Standing) → map f (without_at i es) ≡ take i (map f es) ++ drop (suc i) (map f es)
map_without f zero [] = refl
map_without f zero (e ∷ es) = refl
map_without f (suc i) [] = refl
map_without f (suc i) (e ∷ es) = rw (map_without f i es)

pub without_length : (i : ℕ) (es : List Standing) → i < length es → suc (length (without_at i es)) ≡ length es
without_length i [] l = absurd (omega arith)
without_length zero (e ∷ es) l = refl
without_length (suc i) (e ∷ es) l = omega (arith, without_length i es (omega arith))

-- the lists without an entry
pub lists_without : (es : List Standing) (keys rests : List ℕ) (count i : ℕ) → Lists es keys rests count → i < count
    → Lists (without_at i es) (take_out i count keys) (take_out i count rests) (length (without_at i es))
lists_without es keys rests count i h l =
    let within : i < length es = omega (arith, h.counted) in
    let most : length es ≤ most_circuits = h.most in
    record {
      keyed =
          rw (h.counted, h.keyed, ← length-map es key_in) (take_out_padded most_circuits i (map key_in es) (omega (arith, length-map es key_in)) (omega (arith, length-map es key_in)))
          ∙ ap (padded most_circuits) (sym (map_without key_in i es));
      rested =
          rw (h.counted, h.rested, ← length-map es rest_of) (take_out_padded most_circuits i (map rest_of es) (omega (arith, length-map es rest_of)) (omega (arith, length-map es rest_of)))
          ∙ ap (padded most_circuits) (sym (map_without rest_of i es));
      counted = refl;
      most = omega (arith, without_length i es within);
      ordered = without_ordered i es h.ordered;
      written = without_written i es h.written;
    }
