-- Words of places that come in any order: those of one place, and of two tests the places that pass either and those that pass both.
-- Assumes nothing.
use Prim.Native.Nat.{ℕ, zero, suc, ◌+◌, ◌-◌, ◌*◌, ◌%◌, ◌^◌, ◌≤◌, ◌<◌, min, max}
use mathlib.Core.Path.{◌≡◌, refl, ◌∙◌}
use mathlib.Core.Logic.{◌≢◌}
use mathlib.Core.Bool.{Bool, true, false, ◌&&◌, ◌||◌}
use native.Mathlib.Nat.{zero-add, pow-suc}
use native.Mathlib.Omega.{arith}
use lib.Bits.{bit_and, bit_or, and_step, and_zero_l, or_step, or_zero_l}
use lib.Dec.{eqb, ltb}
use lib.Pow.{pow-lt}
use borrow.Author.Tests.{ltb-true, ltb-false}
use Rattle.basis.specs.Choice.{bit}
use Rattle.basis.proofs.Bools.{bit_eq, bit_ne}
use Rattle.basis.proofs.Weigh.{bit_most}
use Rattle.limits.specs.Limits.{place_count}
use Rattle.lit_words.specs.Lit.{word, words_of}
use Rattle.lit_words.specs.With.{with_place, RoomFor}
use Rattle.lit_words.proofs.Bits.{half_of}

-- the last place that joins is the lowest bit
low : (w : ℕ) (b : Bool) → (w * 2 + bit b) % 2 ≡ bit b
low w b = omega (arith, bit_most b)

bit_either : (a b : Bool) → max (bit a) (bit b) ≡ bit (a || b)
bit_either true true = refl
bit_either true false = refl
bit_either false true = refl
bit_either false false = refl

bit_both : (a b : Bool) → min (bit a) (bit b) ≡ bit (a && b)
bit_both true true = refl
bit_both true false = refl
bit_both false true = refl
bit_both false false = refl

-- the word of the places that pass either
pub word_either : (f g : ℕ → Bool) (k i : ℕ) → bit_or (word f k i) (word g k i) ≡ word (λ q. f q || g q) k i
unfolding word
word_either f g zero i = or_zero_l 0
word_either f g (suc k) i = or_step (word f (suc k) i) (word g (suc k) i) ∙ simp (half_of, low, word_either f g k (suc i), bit_either)

-- and of those that pass both
pub word_both : (f g : ℕ → Bool) (k i : ℕ) → bit_and (word f k i) (word g k i) ≡ word (λ q. f q && g q) k i
unfolding word
word_both f g zero i = and_zero_l 0
word_both f g (suc k) i = and_step (word f (suc k) i) (word g (suc k) i) ∙ simp (half_of, low, word_both f g k (suc i), bit_both)

-- its word, where it is not among the k places from i on
word_off : (p k i : ℕ) → ((q : ℕ) → i ≤ q → q < i + k → p ≢ q) → word (λ q. eqb p q) k i ≡ 0
unfolding word
word_off p zero i h = refl
word_off p (suc k) i h =
    omega (arith, bit_ne p i (h i (omega arith) (omega arith)), word_off p k (suc i) (λ q a b. h q (omega arith) (omega arith)))

-- and where it is
word_on : (p k i j : ℕ) → i + j ≡ p → j < k → word (λ q. eqb p q) k i ≡ 2 ^ j
unfolding word
word_on p zero i j e l = absurd (omega arith)
word_on p (suc k) i zero e l = omega (arith, bit_eq p i (omega arith), word_off p k (suc i) (λ q a b s. absurd (omega arith)))
word_on p (suc k) i (suc j) e l =
    omega (arith, bit_ne p i (λ s. absurd (omega arith)), word_on p k (suc i) j (omega arith) (omega arith), pow-suc 2 j)

-- no place
pub words_none : record { low = 0; high = 0 } ≡ words_of (λ q. false)
unfolding word
words_none = refl

-- there is room for one
pub one_room : (p : ℕ) → p < place_count → RoomFor (record { low = 0; high = 0 }) p
one_room p h = record {
  below = h;
  low = λ l. rw (zero-add (2 ^ p)) (pow-lt l);
  high = λ l. let m : p - 64 < 64 = omega arith in rw (zero-add (2 ^ (p - 64))) (pow-lt m);
}

-- and then it is the one that there is
pub words_one : (p : ℕ) → p < place_count → with_place (record { low = 0; high = 0 }) p ≡ words_of (λ q. eqb p q)
words_one p h = go (ltb p 64) refl
  where
    go : (o : Bool) → ltb p 64 ≡ o → with_place (record { low = 0; high = 0 }) p ≡ words_of (λ q. eqb p q)
    go true e =
        let l = ltb-true p 64 e in
        rw (e, zero-add (2 ^ p), word_on p 64 0 p (omega arith) l, word_off p 64 64 (λ q a b s. absurd (omega arith)))
    go false e =
        let l = ltb-false p 64 e in
        rw (e, zero-add (2 ^ (p - 64)), word_on p 64 64 (p - 64) (omega arith) (omega arith), word_off p 64 0 (λ q a b s. absurd (omega arith)))
