-- One digit, by the ranges of its value and of its byte. Assumes nothing.
use Rattle.std.proofs.Common.{◌≡◌, ℕ, ◌+◌, ◌-◌, ◌%◌, ◌^◌, ◌<◌, ◌≤◌, Bool, true, false, ◌&&◌, leb, refl, arith, le-ltb, lt-ltb, le-leb, leb-true}
use native.Mathlib.Decide.{dec_lt}
use borrow.Author.Tests.{lt-leb}
use Rattle.basis.proofs.Bools.{and-false, and_right}
use Rattle.hex_text.specs.Hex.{digit_of, no_digit, letter_value, value_of}

module _ (v : ℕ) where
  pub digit_low : v < 10 → 48 + v ≡ digit_of v
  digit_low h = rw (lt-ltb v 10 h)

  pub digit_high : 10 ≤ v → 97 + (v - 10) ≡ digit_of v
  digit_high h = rw (le-ltb v 10 h) (omega arith)

-- a value found by a difference that wraps
module _ (x : ℕ) (small : x < 2 ^ 8) where
  pub letter_found : (x + 159) % 256 < 6 → (x + 159) % 256 + 10 ≡ letter_value x
  letter_found h =
      let l : 97 ≤ x = omega arith in
      let m : x ≤ 102 = omega arith in
      rw (le-leb 97 x l, le-leb x 102 m) (omega arith)

  pub letter_none : 6 ≤ (x + 159) % 256 → no_digit ≡ letter_value x
  letter_none h = go (dec_lt x 97)
    where
      go : Dec (x < 97) → no_digit ≡ letter_value x
      go (yes l) = rw (lt-leb 97 x l)
      go (no l) = let m : 102 < x = omega arith in rw (lt-leb x 102 m, and-false)

  pub numeral_found : (x + 208) % 256 < 10 → (x + 208) % 256 ≡ value_of x
  unfolding value_of
  numeral_found h =
      let l : 48 ≤ x = omega arith in
      let m : x ≤ 57 = omega arith in
      rw (le-leb 48 x l, le-leb x 57 m) (omega arith)

  pub numeral_none : (o : ℕ) → o ≡ letter_value x → 10 ≤ (x + 208) % 256 → o ≡ value_of x
  unfolding value_of
  numeral_none o k h = go (dec_lt x 48)
    where
      go : Dec (x < 48) → o ≡ value_of x
      go (yes l) = rw (lt-leb 48 x l) k
      go (no l) = let m : 57 < x = omega arith in rw (lt-leb x 57 m, and-false) k

-- a letter's value is at most that of no digit
pub letter_most : (x o : ℕ) → o ≡ letter_value x → o ≤ no_digit
letter_most x o e = go (leb 97 x && leb x 102) refl
  where
    go : (t : Bool) → (leb 97 x && leb x 102) ≡ t → o ≤ no_digit
    go true h = let l = leb-true x 102 (and_right (leb 97 x) (leb x 102) h) in omega (arith, rw h at e)
    go false h = omega (arith, rw h at e)

pub ruleset digits = (digit_low, digit_high, letter_found, letter_none, numeral_found, numeral_none, letter_most)
