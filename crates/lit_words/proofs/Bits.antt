-- The bits of a word: its ones, the trailing zeros of its complement, words that are made bit by bit, and their bytes. Assumes nothing.
use Prim.Native.Nat.{ℕ, zero, suc, ◌+◌, ◌-◌, ◌*◌, ◌/◌, ◌%◌, ◌^◌, ◌<◌}
use mathlib.Core.Path.{◌≡◌, refl, ap, ◌∙◌}
use mathlib.Core.Bool.{Bool, true, false, not}
use native.Mathlib.Nat.{one-mul, mod-eq_of_lt, add-zero, add-suc, suc-add, div-one, div-eq_of_lt, div-div-eq-div-mul, pow-suc, pow-succ', le_of_suc-le-suc, not-suc-le-zero}
use native.Mathlib.Omega.{arith}
use lib.Dec.{eqb}
use lib.Pow.{pow-lt}
use lib.Count.{ones, ones_step, count_trailing_zeros}
use borrow.Author.Tests.{eq-eqb, ne_eqb}
use Rattle.basis.specs.Choice.{bit}
use Rattle.basis.specs.Count.{count_below}
use Rattle.basis.specs.Search.{first_below}
use Rattle.basis.proofs.Weigh.{bit_most}
use Rattle.lit_words.specs.Lit.{bit_of, word}

-- the lowest bit is what is left by halving
bit_zero : (w : ℕ) → bit_of w 0 ≡ eqb (w % 2) 1
unfolding bit_of
bit_zero w = simp div-one

-- the others are those of the half
bit_suc : (w b : ℕ) → bit_of w (suc b) ≡ bit_of (w / 2) b
unfolding bit_of
bit_suc w b = simp (pow-succ', ← div-div-eq-div-mul)

-- the lowest bit of an odd word stands, that of an even word does not
low_set : (w : ℕ) → w % 2 ≡ 1 → bit_of w 0 ≡ true
low_set w e = bit_zero w ∙ eq-eqb (w % 2) 1 e

low_clear : (w : ℕ) → w % 2 ≡ 0 → bit_of w 0 ≡ false
low_clear w e = bit_zero w ∙ ne_eqb (w % 2) 1 (λ h. omega arith)

-- a word of b bits has none from there on
pub bit_above : (w b : ℕ) → w < 2 ^ b → bit_of w b ≡ false
unfolding bit_of
bit_above w b h = rw (div-eq_of_lt h)

-- the half has one bit less
half_lt : (k w : ℕ) → w < 2 ^ suc k → w / 2 < 2 ^ k
half_lt k w h = omega (arith, pow-suc 2 k)

-- the ones of a word of k bits are its bits that stand
pub ones_count : (k w : ℕ) → w < 2 ^ k → ones w ≡ count_below k (bit_of w)
unfolding ones
ones_count zero w h = let z : w ≡ 0 = omega arith in simp z
ones_count (suc k) w h = go (w % 2) refl (ones_count k (w / 2) (half_lt k w h))
  where
    go : (r : ℕ) → w % 2 ≡ r → ones (w / 2) ≡ count_below k (bit_of (w / 2)) → ones w ≡ count_below (suc k) (bit_of w)
    go zero e rest = ones_step w ∙ simp (low_clear w e, bit_suc, e, rest)
    go (suc zero) e rest = ones_step w ∙ simp (low_set w e, bit_suc, e, rest)
    go (suc (suc r)) e rest = absurd (omega arith)

-- the complement of w at one more bit: its lowest bit, and the others
comp_even : (k w : ℕ) → w < 2 ^ suc k → w % 2 ≡ 0 → (2 ^ suc k - 1 - w) % 2 ≡ 1
comp_even k w h e = omega (arith, pow-suc 2 k)

comp_odd : (k w : ℕ) → w < 2 ^ suc k → w % 2 ≡ 1 → (2 ^ suc k - 1 - w) % 2 ≡ 0
comp_odd k w h e = omega (arith, pow-suc 2 k)

comp_half : (k w : ℕ) → w < 2 ^ suc k → (2 ^ suc k - 1 - w) / 2 ≡ 2 ^ k - 1 - w / 2
comp_half k w h = omega (arith, pow-suc 2 k)

-- the trailing zeros of the complement are its first bit that does not stand
pub trailing_first : (k w : ℕ) → w < 2 ^ k → count_trailing_zeros k (2 ^ k - 1 - w) ≡ first_below k (λ b. not (bit_of w b))
unfolding count_trailing_zeros
trailing_first zero w h = refl
trailing_first (suc k) w h = go (w % 2) refl (trailing_first k (w / 2) (half_lt k w h))
  where
    go : (r : ℕ) → w % 2 ≡ r → count_trailing_zeros k (2 ^ k - 1 - w / 2) ≡ first_below k (λ b. not (bit_of (w / 2) b))
        → count_trailing_zeros (suc k) (2 ^ suc k - 1 - w) ≡ first_below (suc k) (λ b. not (bit_of w b))
    go zero e rest = simp (comp_even k w h e, low_clear w e)
    go (suc zero) e rest = simp (comp_odd k w h e, low_set w e, comp_half k w h, bit_suc, rest)
    go (suc (suc r)) e rest = absurd (omega arith)

-- a word of k places has k bits
pub word_lt : (f : ℕ → Bool) (k i : ℕ) → word f k i < 2 ^ k
unfolding word
word_lt f zero i = omega arith
word_lt f (suc k) i = omega (arith, word_lt f k (suc i), bit_most (f i), pow-suc 2 k)

-- the last place that joins is the lowest bit, and halving takes it off
lowest_of_lem : (w : ℕ) (t : Bool) → bit_of (w * 2 + bit t) 0 ≡ t
lowest_of_lem w true = low_set (w * 2 + 1) (omega arith)
lowest_of_lem w false = low_clear (w * 2 + 0) (omega arith)

pub half_of : (w : ℕ) (t : Bool) → (w * 2 + bit t) / 2 ≡ w
half_of w t = omega (arith, bit_most t)

-- bit b of the word of the places from i on is that of place i + b
pub word_bit : (f : ℕ → Bool) (k i b : ℕ) → b < k → bit_of (word f k i) b ≡ f (i + b)
unfolding word
word_bit f zero i b h = absurd (not-suc-le-zero h)
word_bit f (suc k) i zero h = simp (lowest_of_lem, add-zero)
word_bit f (suc k) i (suc b) h = simp (bit_suc, half_of, add-suc) (simp suc-add at (word_bit f k (suc i) b (le_of_suc-le-suc h)))

-- a binary digit is the bit of the test that it is 1
pub digit : (x : ℕ) → x < 2 → bit (eqb x 1) ≡ x
digit zero h = refl
digit (suc zero) h = refl
digit (suc (suc x)) h = absurd (omega arith)

-- a number is the word of its bits
pub word_of : (f : ℕ → Bool) (k i x : ℕ) → x < 2 ^ k → ((b : ℕ) → b < k → f (i + b) ≡ bit_of x b) → word f k i ≡ x
unfolding word bit_of
word_of f zero i x h e = omega arith
word_of f (suc k) i x h e =
    let low : f i ≡ eqb (x % 2) 1 = simp (add-zero, div-one) at (e 0 (omega arith)) in
    let up : word f k (suc i) ≡ x / 2 = word_of f k (suc i) (x / 2) (omega (arith, pow-suc 2 k)) (λ b l. simp (suc-add, div-div-eq-div-mul, ← pow-succ') (rw add-suc at (e (suc b) (omega arith)))) in
    let d : bit (eqb (x % 2) 1) ≡ x % 2 = digit (x % 2) (omega arith) in
    rw (low, up, d) (omega arith)

-- the lowest byte of a word, and the others
pub low_byte : (f : ℕ → Bool) (k i : ℕ) → word f (8 + k) i ≡ word f k (8 + i) * 256 + word f 8 i
unfolding word
low_byte f k i =
    let e : 8 + k ≡ suc (suc (suc (suc (suc (suc (suc (suc k))))))) = omega arith in
    let g : 8 + i ≡ suc (suc (suc (suc (suc (suc (suc (suc i))))))) = omega arith in
    rw (e, g) (omega arith)

-- one shifted up by b is the word of bit b
pub shifted : (b : ℕ) → b < 64 → 1 * 2 ^ b % 2 ^ 64 ≡ 2 ^ b
shifted b h = ap (λ (x : ℕ). x % 2 ^ 64) (one-mul (2 ^ b)) ∙ mod-eq_of_lt (pow-lt h)
