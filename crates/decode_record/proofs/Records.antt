-- Reading the record of a place. Assumes nothing.
use Prim.Native.Nat.{ℕ, ◌+◌, ◌≤◌, ◌<◌}
use mathlib.Core.Path.{◌≡◌, refl, ◌∙◌}
use mathlib.Core.Bool.{Bool, true, false}
use mathlib.Core.List.{List}
use lib.ListN.{length, get_or, drop, drop_of_length-le}
use Rattle.lightpath.specs.declared.Circuit.{Circuit}
use Rattle.slots.specs.declared.Slot.TheVariants.{Unlit as unlit, Alone as alone, Shared as shared}
use Rattle.lit_words.specs.Lit.{bit_of}
use Rattle.refusals.specs.declared.Refusal.{Refusal}
use Rattle.refusals.specs.declared.Refusal.TheVariants.{CutShort, BadField}
use Rattle.form.specs.Reader.{got, fault, and_then}
use Rattle.form.specs.Reading.{read_circuit, map_holds, read_second, read_record_by, read_record, read_place_by, read_place}
use Rattle.slots.specs.declared.Slot.{Slot}
use Rattle.std.specs.Prelude.{Result}
use Rattle.decode_record.specs.Found.{FieldAt}
use Rattle.decode_record.proofs.Circuits.{byte_at}

-- the second circuit: none, refused, or read
module _ (s : List ℕ) (a : Circuit) (second m x : Bool) where
  pub no_second : second ≡ false → read_second a second m x s ≡ got (alone a) s
  unfolding read_second
  no_second e = rw e

  module _ (e : second ≡ true) where
    pub second_fault : (r : Refusal) → read_circuit m x s ≡ fault r → read_second a second m x s ≡ fault r
    unfolding read_second
    second_fault r h = rw (e, h)

    pub second_got : (c : Circuit) (t : List ℕ) → read_circuit m x s ≡ got c t → read_second a second m x s ≡ got (shared a c) t
    unfolding read_second
    second_got c t h = rw (e, h)

-- a record: cut short, with a bad field map, or read circuit by circuit
module _ (b : List ℕ) (i : ℕ) where
  pub record_cut : length b ≤ i → read_record (drop i b) ≡ fault CutShort
  unfolding read_record_by
  record_cut h = rw (drop_of_length-le b h)

  module _ (h : i < length b) (v : Bool) (e : v ≡ map_holds (get_or b i 0)) where
    pub map_bad : v ≡ false → read_record (drop i b) ≡ fault BadField
    unfolding read_record_by
    map_bad t = rw (byte_at b i (i + 1) h refl, ← e, t)

    module _ (t : v ≡ true) (m0 m3 : Bool) (e0 : m0 ≡ bit_of (get_or b i 0) 0) (e3 : m3 ≡ bit_of (get_or b i 0) 3) where
      mapped : read_record (drop i b) ≡ and_then (read_circuit m0 m3 (drop (i + 1) b)) (λ c. read_second c (bit_of (get_or b i 0) 1) (bit_of (get_or b i 0) 2) (bit_of (get_or b i 0) 4))
      unfolding read_record_by
      mapped = rw (byte_at b i (i + 1) h refl, ← e, t, e0, e3)

      pub record_fault : (r : Refusal) → read_circuit m0 m3 (drop (i + 1) b) ≡ fault r → read_record (drop i b) ≡ fault r
      record_fault r h = mapped ∙ rw h

      pub record_got : (c : Circuit) (k : ℕ) (m1 m2 m4 : Bool) (s : Result (Slot × ℕ) Refusal) → read_circuit m0 m3 (drop (i + 1) b) ≡ got c (drop k b)
          → m1 ≡ bit_of (get_or b i 0) 1 → m2 ≡ bit_of (get_or b i 0) 2 → m4 ≡ bit_of (get_or b i 0) 4
          → FieldAt b s (read_second c m1 m2 m4 (drop k b)) → FieldAt b s (read_record (drop i b))
      record_got c k m1 m2 m4 s h e1 e2 e4 q =
          let z : read_record (drop i b) ≡ read_second c m1 m2 m4 (drop k b) = mapped ∙ rw (h, e1, e2, e4) in
          rw z q

-- a place has a record only where it is lit
pub place_lit : (b s : List ℕ) (lit : Bool) (r : Result (Slot × ℕ) Refusal) → lit ≡ true → FieldAt b r (read_record s) → FieldAt b r (read_place lit s)
unfolding read_place_by
place_lit b s lit r e h = rw e h

pub place_unlit : (s : List ℕ) (lit : Bool) → lit ≡ false → read_place lit s ≡ got unlit s
unfolding read_place_by
place_unlit s lit e = rw e

pub ruleset place_rules = (place_lit, place_unlit)
