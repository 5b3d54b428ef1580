-- The field map of a record, and back from its bits. Assumes nothing.
use Prim.Native.Nat.{ℕ, zero, suc, ◌<◌}
use mathlib.Core.Path.{◌≡◌, refl, sym, ◌∙◌}
use mathlib.Core.Bool.{Bool, true, false, ◌||◌, not}
use mathlib.Core.List.{List, [], ◌∷◌}
use native.Mathlib.Nat.{zero-add}
use native.Mathlib.Omega.{arith}
use lib.Dec.{ltb}
use lib.ListN.{get_or}
use borrow.Author.Tests.{lt-ltb, ltb-true, not-true}
use Rattle.basis.proofs.Bools.{and_left, and_right, or_false}
use Rattle.basis.proofs.Weigh.{bit_most}
use Rattle.lit_words.specs.Lit.{bit_of, word}
use Rattle.lit_words.proofs.Bits.{bit_above, word_bit, word_of}
use Rattle.form.specs.Form.{field_map}
use Rattle.form.specs.Reading.{map_holds}

-- the bits of a field map are those that it is made of
pub map_bit_lem : (bits : List Bool) (b : ℕ) → b < 8 → bit_of (field_map bits) b ≡ get_or bits b false
unfolding field_map
map_bit_lem bits b h = word_bit (λ b. get_or bits b false) 8 0 b h ∙ rw zero-add

-- bits 2 and 4 don't stand without bit 1
pub second_absent : (m : ℕ) → map_holds m ≡ true → bit_of m 1 ≡ false → (bit_of m 2 ≡ false) × (bit_of m 4 ≡ false)
unfolding map_holds
second_absent m h e = or_false (bit_of m 2) (bit_of m 4) (not-true (bit_of m 2 || bit_of m 4) (rw e at (and_right (ltb m 32) _ h)))

module _ (b0 b1 b2 b3 b4 : Bool) where
  small : field_map (b0 ∷ b1 ∷ b2 ∷ b3 ∷ b4 ∷ []) < 32
  unfolding field_map word
  small = omega (arith, bit_most b0, bit_most b1, bit_most b2, bit_most b3, bit_most b4)

  pub field_map_holds : (b1 || not (b2 || b4)) ≡ true → map_holds (field_map (b0 ∷ b1 ∷ b2 ∷ b3 ∷ b4 ∷ [])) ≡ true
  unfolding map_holds
  field_map_holds h =
      let bits : List Bool = b0 ∷ b1 ∷ b2 ∷ b3 ∷ b4 ∷ [] in
      rw (lt-ltb (field_map bits) 32 small, map_bit_lem bits 1 (omega arith), map_bit_lem bits 2 (omega arith), map_bit_lem bits 4 (omega arith)) h

-- the bits of a number below 32 are the five lowest
five_bits : (m : ℕ) → m < 32 → (b : ℕ) → b < 8 → get_or (bit_of m 0 ∷ bit_of m 1 ∷ bit_of m 2 ∷ bit_of m 3 ∷ bit_of m 4 ∷ []) b false ≡ bit_of m b
five_bits m h zero l = refl
five_bits m h (suc zero) l = refl
five_bits m h (suc (suc zero)) l = refl
five_bits m h (suc (suc (suc zero))) l = refl
five_bits m h (suc (suc (suc (suc zero)))) l = refl
five_bits m h (suc (suc (suc (suc (suc zero))))) l = sym (bit_above m 5 h)
five_bits m h (suc (suc (suc (suc (suc (suc zero)))))) l = sym (bit_above m 6 (omega arith))
five_bits m h (suc (suc (suc (suc (suc (suc (suc zero))))))) l = sym (bit_above m 7 (omega arith))
five_bits m h (suc (suc (suc (suc (suc (suc (suc (suc b)))))))) l = absurd (omega arith)

-- a map that holds is that of its bits
pub field_map_is : (m : ℕ) → map_holds m ≡ true → field_map (bit_of m 0 ∷ bit_of m 1 ∷ bit_of m 2 ∷ bit_of m 3 ∷ bit_of m 4 ∷ []) ≡ m
unfolding map_holds field_map
field_map_is m h =
    let l : m < 32 = ltb-true m 32 (and_left _ _ h) in
    word_of (λ b. get_or (bit_of m 0 ∷ bit_of m 1 ∷ bit_of m 2 ∷ bit_of m 3 ∷ bit_of m 4 ∷ []) b false) 8 0 m (omega arith) (λ b k. rw zero-add (five_bits m l b k))
