-- The two words of the lit places: place by place, by their ones, and by the trailing zeros of their complements. Assumes nothing.
use Prim.Native.Nat.{ℕ, ◌+◌, ◌-◌, ◌^◌, ◌≤◌, ◌<◌}
use mathlib.Core.Path.{◌≡◌, refl, sym, ap, ap₂, ◌∙◌}
use mathlib.Core.Bool.{Bool, true, false, not}
use native.Mathlib.Nat.{zero-add}
use native.Mathlib.Omega.{arith}
use lib.Dec.{ltb}
use lib.Count.{ones, count_trailing_zeros}
use borrow.Author.Tests.{lt-ltb, le-ltb, ltb-true, ltb-false}
use Rattle.basis.specs.Count.{count_below}
use Rattle.basis.specs.Search.{first_below}
use Rattle.basis.proofs.Below.{count_same, first_same, count_sum, first_bound, first_sum}
use Rattle.limits.specs.Limits.{place_count}
use Rattle.lit_words.specs.Lit.{Lit, bit_of, lit_bit, words_of}
use Rattle.lit_words.specs.Unlit.{unlit_by}
use Rattle.lit_words.proofs.Bits.{ones_count, trailing_first, word_bit}

-- place p of the lower 64 is bit p of the low word
low_bits : (l : Lit) (p : ℕ) → p < 64 → lit_bit l p ≡ bit_of l.low p
unfolding lit_bit
low_bits l p h = simp (lt-ltb p 64 h)

-- and place 64 + p is bit p of the high word
high_bits : (l : Lit) (p : ℕ) → lit_bit l (64 + p) ≡ bit_of l.high p
unfolding lit_bit
high_bits l p =
    let e : 64 + p - 64 ≡ p = omega arith in
    simp (le-ltb (64 + p) 64 (omega arith), e)

module _ (l : Lit) (low : l.low < 2 ^ 64) (high : l.high < 2 ^ 64) where
  -- 01: "The map says which places are lit": the ones of both words are as many as the lit places
  pub lit_count : ones l.low + ones l.high ≡ count_below place_count (lit_bit l)
  lit_count =
      ap₂ ◌+◌ (ones_count 64 l.low low) (ones_count 64 l.high high)
      ∙ ap₂ ◌+◌ (count_same 64 (bit_of l.low) (lit_bit l) (λ p h. sym (low_bits l p h)))
      (count_same 64 (bit_of l.high) (λ p. lit_bit l (64 + p)) (λ p h. sym (high_bits l p)))
      ∙ sym (count_sum 64 64 (lit_bit l))

  -- the trailing zeros of the low word's complement are the first unlit place of the lower 64
  first_low : count_trailing_zeros 64 (2 ^ 64 - 1 - l.low) ≡ first_below 64 (λ p. not (lit_bit l p))
  first_low = trailing_first 64 l.low low ∙ first_same 64 (λ p. not (bit_of l.low p)) (λ p. not (lit_bit l p)) (λ p h. ap not (sym (low_bits l p h)))

  -- and those of the high word's the first of the higher
  first_high : count_trailing_zeros 64 (2 ^ 64 - 1 - l.high) ≡ first_below 64 (λ p. not (lit_bit l (64 + p)))
  first_high =
      trailing_first 64 l.high high
      ∙ first_same 64 (λ p. not (bit_of l.high p)) (λ p. not (lit_bit l (64 + p))) (λ p h. ap not (sym (high_bits l p)))

  -- Law: the first unlit place is the low word's where that has one
  pub unlit_low : count_trailing_zeros 64 (2 ^ 64 - 1 - l.low) < 64 → count_trailing_zeros 64 (2 ^ 64 - 1 - l.low) ≡ unlit_by l
  unfolding unlit_by
  unlit_low h = first_low ∙ sym (first_bound 64 place_count (λ p. not (lit_bit l p)) (omega (arith, first_low)) (omega (arith, first_low)))

  -- Law: the first unlit place is the high word's where the low word has none
  pub unlit_high : 64 ≤ count_trailing_zeros 64 (2 ^ 64 - 1 - l.low) → 64 + count_trailing_zeros 64 (2 ^ 64 - 1 - l.high) ≡ unlit_by l
  unfolding unlit_by
  unlit_high h = ap (λ (n : ℕ). 64 + n) first_high ∙ sym (first_sum 64 64 (λ p. not (lit_bit l p)) (omega (arith, first_low)))

-- the words say of each place whether it passes the test that they are made of
pub words_say : (f : ℕ → Bool) (p : ℕ) → p < place_count → lit_bit (words_of f) p ≡ f p
unfolding lit_bit
words_say f p h = go (ltb p 64) refl
  where
    go : (b : Bool) → ltb p 64 ≡ b → lit_bit (words_of f) p ≡ f p
    go true e = simp (e, word_bit f 64 0 p (ltb-true p 64 e), zero-add)
    go false e =
        let l : 64 ≤ p = ltb-false p 64 e in
        let g : 64 + (p - 64) ≡ p = omega arith in
        simp (e, word_bit f 64 64 (p - 64) (omega arith), g)
