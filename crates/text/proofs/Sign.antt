-- Reading a signed number: the word by its first byte, and the number that the machine makes of the digits. Assumes nothing.
use mathlib.Core.Bool.{Bool, true, false}
use mathlib.Core.Path.{◌≡◌, refl, sym, ap, ◌∙◌}
use mathlib.Core.List.{List, [], ◌∷◌}
use Prim.Native.Nat.{ℕ, ◌+◌, ◌^◌, ◌≤◌}
use native.Mathlib.Omega.{arith}
use lib.IntN.{ℤ, pos, ◌-ℤ◌, +ℤ_idl}
use lib.Dec.{eqb}
use lib.ListN.{take, drop}
use lib.Pointwise.{pointwise}
use lib.Signed.{mag}
use mir.Syntax.{w32, w64}
use mir.Val.{SFits, to_z, of_z}
use mir.ValLaws.{to_z_pos, to_z-of_z}
use Rattle.basis.proofs.Bools.{and_left}
use Rattle.basis.proofs.Integers.{mag_below}
use Rattle.std.specs.Prelude.{Option, Some, None}
use Rattle.text.specs.Number.{number}
use Rattle.text.specs.Signed.{below, with_sign, signed}
use Rattle.text.proofs.Reading.{number_small}

-- a word by its first byte
after_minus : (word : List ℕ) → pointwise eqb (take 1 word) (45 ∷ []) ≡ true → signed word ≡ with_sign below (number (2 ^ 31 + 1) (drop 1 word))
unfolding signed
after_minus [] e = cc
after_minus (x ∷ s) e = rw (and_left (eqb x 45) true e)

no_minus : (word : List ℕ) → pointwise eqb (take 1 word) (45 ∷ []) ≡ false → signed word ≡ with_sign pos (number (2 ^ 31) word)
unfolding signed number
no_minus [] e = refl
no_minus (x ∷ s) e = go (eqb x 45) refl
  where
    go : (t : Bool) → eqb x 45 ≡ t → signed (x ∷ s) ≡ with_sign pos (number (2 ^ 31) (x ∷ s))
    go true k = absurd (cc)
    go false k = rw k

-- what the machine negates at 64 bits
abbrev negated : ℕ → ℤ
negated n = pos 0 -ℤ to_z w64 n

-- that is the number below zero, and 32 bits hold it
module _ (n : ℕ) (h : n ≤ 2 ^ 31) where
  small : mag (below n) ≤ 2147483647
  small = mag_below n 2147483647 h

  negated_is : negated n ≡ below n
  negated_is = rw (to_z_pos w64 n (omega arith)) (+ℤ_idl (below n))

  negated_fits : SFits w64 (negated n)
  negated_fits = rw negated_is (record { sfits = omega (arith, small) })

  negated_read : to_z w64 (of_z w64 (negated n)) ≡ below n
  negated_read = to_z-of_z w64 (negated n) negated_fits ∙ negated_is

  narrow_fits : SFits w32 (to_z w64 (of_z w64 (negated n)))
  narrow_fits = rw negated_read (record { sfits = omega (arith, small) })

-- a number that was read after `-`
module _ (s : List ℕ) (n : ℕ) (g : Some n ≡ number (2 ^ 31 + 1) s) where
  below_small : n ≤ 2 ^ 31
  below_small = omega (arith, number_small (2 ^ 31 + 1) s n (sym g))

  pub below_wide : SFits w64 (pos n)
  below_wide = record { sfits = omega (arith, below_small) }

  pub below_negated : SFits w64 (negated n)
  below_negated = negated_fits n below_small

  pub below_narrow : SFits w32 (to_z w64 (of_z w64 (negated n)))
  below_narrow = narrow_fits n below_small

-- and one with no `-` before it
pub above_narrow : (s : List ℕ) (n : ℕ) → Some n ≡ number (2 ^ 31) s → SFits w32 (pos n)
above_narrow s n g = record { sfits = number_small (2 ^ 31) s n (sym g) }

-- what the word is then
module _ (word : List ℕ) where
  module _ (e : pointwise eqb (take 1 word) (45 ∷ []) ≡ true) (digits : List ℕ) (d : digits ≡ drop 1 word) where
    pub below_none : (x : Option ℤ) → x ≡ None → None ≡ number (2 ^ 31 + 1) digits → x ≡ signed word
    below_none x k g = k ∙ sym (after_minus word e ∙ rw (← d, ← g))

    pub below_some : (n : ℕ) → Some n ≡ number (2 ^ 31 + 1) digits → Some (to_z w32 (of_z w32 (to_z w64 (of_z w64 (negated n))))) ≡ signed word
    below_some n g =
        let m : n ≤ 2 ^ 31 = below_small digits n g in
        ap Some (to_z-of_z w32 _ (narrow_fits n m) ∙ negated_read n m) ∙ sym (after_minus word e ∙ rw (← d, ← g))

  module _ (e : pointwise eqb (take 1 word) (45 ∷ []) ≡ false) where
    pub above_none : (x : Option ℤ) → x ≡ None → None ≡ number (2 ^ 31) word → x ≡ signed word
    above_none x k g = k ∙ sym (no_minus word e ∙ rw (← g))

    pub above_some : (n : ℕ) → Some n ≡ number (2 ^ 31) word → Some (to_z w32 n) ≡ signed word
    above_some n g = ap Some (to_z_pos w32 n (above_narrow word n g).sfits) ∙ sym (no_minus word e ∙ rw (← g))
