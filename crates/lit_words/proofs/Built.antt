-- The two words as a loop from the last place down makes them, lit place by lit place. Assumes nothing.
use Prim.Native.Nat.{ℕ, zero, suc, ◌+◌, ◌-◌, ◌^◌, ◌≤◌, ◌<◌}
use mathlib.Core.Path.{◌≡◌, refl, sym, ap, ◌∙◌}
use mathlib.Core.Logic.{◌≢◌}
use mathlib.Core.Bool.{Bool, true, false, ◌&&◌, ◌||◌}
use native.Mathlib.Nat.{zero-add, add-zero, pow-suc}
use native.Mathlib.Decide.{dec_lt, ℕ_discrete}
use native.Mathlib.Omega.{arith}
use lib.Dec.{eqb, leb, ltb}
use borrow.Author.Tests.{ltb-true, ltb-false, le-leb, lt-leb, eq-eqb, ne_eqb}
use Rattle.limits.specs.Limits.{place_count}
use Rattle.lit_words.specs.Lit.{Lit, word, words_of}
use Rattle.lit_words.specs.With.{with_place, RoomFor}
use Rattle.lit_words.proofs.Bits.{word_lt}

-- words of tests that agree on their places are the same
word_same : (f g : ℕ → Bool) (k i : ℕ) → ((q : ℕ) → i ≤ q → q < i + k → f q ≡ g q) → word f k i ≡ word g k i
unfolding word
word_same f g zero i h = refl
word_same f g (suc k) i h = simp (h i (omega arith) (omega arith), word_same f g k (suc i) (λ q l m. h q (omega arith) (omega arith)))

-- one place more that passes is its bit more
word_more : (f g : ℕ → Bool) (k i j : ℕ) → j < k → ((q : ℕ) → i ≤ q → q < i + k → q ≢ i + j → f q ≡ g q) → f (i + j) ≡ false → g (i + j) ≡ true
    → word f k i + 2 ^ j ≡ word g k i
unfolding word
word_more f g zero i j l h n y = absurd (omega arith)
word_more f g (suc k) i zero l h n y =
    simp (rw add-zero at n, rw add-zero at y, word_same f g k (suc i) (λ q a b. h q (omega arith) (omega arith) (λ e. omega arith))) (omega arith)
word_more f g (suc k) i (suc j) l h n y =
    let e : i + suc j ≡ suc i + j = omega arith in
    let rest = word_more f g k (suc i) j (omega arith) (λ q a b d. h q (omega arith) (omega arith) (λ z. d (omega arith))) (rw e at n) (rw e at y) in
    rw (h i (omega arith) (omega arith) (λ z. omega arith)) (omega (arith, rest, pow-suc 2 j))

-- a word of no places is 0
word_none : (k i : ℕ) → word (λ q. false) k i ≡ 0
unfolding word
word_none zero i = refl
word_none (suc k) i = simp (word_none k (suc i))

-- of the places that pass the test f, those from p on
abbrev from : (ℕ → Bool) → ℕ → ℕ → Bool
from f p q = leb p q && f q

-- the words hold the places from p on that pass
pub record Built (f : ℕ → Bool) (p : ℕ) (l : Lit) : Type 0 where
  pub words : l ≡ words_of (from f p)

module _ (f : ℕ → Bool) where
  -- a place below p is not one from p on
  below_from : (p q : ℕ) → q < p → from f p q ≡ false
  below_from p q l = rw (lt-leb p q l)

  -- one from p on is where it passes
  at_from : (p q : ℕ) → p ≤ q → from f p q ≡ f q
  at_from p q l = rw (le-leb p q l)

  -- every place but p − 1 is from p − 1 on where it is from p on
  step_from : (p q : ℕ) → 0 < p → q ≢ p - 1 → from f p q ≡ from f (p - 1) q
  step_from p q h d = go (dec_lt q p)
    where
      go : Dec (q < p) → from f p q ≡ from f (p - 1) q
      go (yes l) = below_from p q l ∙ sym (below_from (p - 1) q (omega arith))
      go (no n) = at_from p q (omega arith) ∙ sym (at_from (p - 1) q (omega arith))

module _ {f : ℕ → Bool} where
  -- no place has joined from 128 on
  pub built_start : Built f place_count (record { low = 0; high = 0 })
  built_start = record { words = rw (none 0 (omega arith), none 64 (omega arith)) }
    where
      none : (i : ℕ) → i ≤ 64 → word (from f place_count) 64 i ≡ 0
      none i l = word_same (from f place_count) (λ q. false) 64 i (λ q a b. below_from f place_count q (omega arith)) ∙ word_none 64 i

  -- all have at the end
  pub built_end : (p : ℕ) (l : Lit) → Built f p l → p ≤ 0 → l ≡ words_of f
  built_end p l b h =
      b.words ∙ rw (word_same (from f p) f 64 0 (λ q i j. at_from f p q (omega arith)), word_same (from f p) f 64 64 (λ q i j. at_from f p q (omega arith)))

  module _ (p : ℕ) (l : Lit) (b : Built f p l) (h : 0 < p) (k : p ≤ place_count) where
    -- an unlit place changes nothing
    pub built_skip : (r : Bool) → r ≡ f (p - 1) → r ≡ false → Built f (p - 1) l
    built_skip r d e = record { words = b.words ∙ rw (word_same (from f p) (from f (p - 1)) 64 0 (λ q i j. same q), word_same (from f p) (from f (p - 1)) 64 64 (λ q i j. same q)) }
      where
        go : (q : ℕ) → Dec (q ≡ p - 1) → from f p q ≡ from f (p - 1) q
        go q (yes s) = below_from f p q (omega arith) ∙ sym (at_from f (p - 1) q (omega arith) ∙ rw s (sym d ∙ e))
        go q (no d) = step_from f p q h d

        same : (q : ℕ) → from f p q ≡ from f (p - 1) q
        same q = go q (ℕ_discrete q (p - 1))

    -- where place p − 1 passes g, and the others as before, its bit is added
    module _ (g : ℕ → Bool) (others : (q : ℕ) → q ≢ p - 1 → from f p q ≡ g q) (joins : g (p - 1) ≡ true) where
      with_low : p - 1 < 64 → l.low + 2 ^ (p - 1) ≡ word g 64 0
      with_low m =
          ap (λ (v : Lit). v.low + 2 ^ (p - 1)) b.words
          ∙ word_more (from f p) g 64 0 (p - 1) m (λ q i j d. others q (λ s. d (omega arith))) (below_from f p (0 + (p - 1)) (omega arith)) (rw zero-add joins)

      with_high : 64 ≤ p - 1 → l.high + 2 ^ (p - 1 - 64) ≡ word g 64 64
      with_high m =
          let y : 64 + (p - 1 - 64) ≡ p - 1 = omega arith in
          ap (λ (v : Lit). v.high + 2 ^ (p - 1 - 64)) b.words
          ∙ word_more (from f p) g 64 64 (p - 1 - 64) (omega arith) (λ q i j d. others q (λ s. d (omega arith))) (below_from f p (64 + (p - 1 - 64)) (omega arith)) (rw y joins)

    -- a lit place joins
    pub built_next : (r : Bool) (m : Lit) → r ≡ f (p - 1) → r ≡ true → m ≡ with_place l (p - 1) → Built f (p - 1) m
    built_next r m d e n = record { words = n ∙ go (ltb (p - 1) 64) refl }
      where
        others : (q : ℕ) → q ≢ p - 1 → from f p q ≡ from f (p - 1) q
        others q d = step_from f p q h d

        joins : from f (p - 1) (p - 1) ≡ true
        joins = at_from f (p - 1) (p - 1) (omega arith) ∙ sym d ∙ e

        go : (c : Bool) → ltb (p - 1) 64 ≡ c → with_place l (p - 1) ≡ words_of (from f (p - 1))
        go true w =
            let high = ap (λ (v : Lit). v.high) b.words ∙ word_same (from f p) (from f (p - 1)) 64 64 (λ q i j. others q (λ s. omega (arith, ltb-true (p - 1) 64 w))) in
            rw (w, with_low (from f (p - 1)) others joins (ltb-true (p - 1) 64 w), high)
        go false w =
            let low = ap (λ (v : Lit). v.low) b.words ∙ word_same (from f p) (from f (p - 1)) 64 0 (λ q i j. others q (λ s. omega (arith, ltb-false (p - 1) 64 w))) in
            rw (w, with_high (from f (p - 1)) others joins (ltb-false (p - 1) 64 w), low)

    -- and has room
    pub built_room : RoomFor l (p - 1)
    built_room = record {
      below = omega arith;
      low = λ m. omega (arith, with_low g others joins m, word_lt g 64 0);
      high = λ m. omega (arith, with_high g others joins m, word_lt g 64 64);
    }
      where
        g : ℕ → Bool
        g q = eqb q (p - 1) || from f p q

        others : (q : ℕ) → q ≢ p - 1 → from f p q ≡ g q
        others q d = rw (ne_eqb q (p - 1) d)

        joins : g (p - 1) ≡ true
        joins = rw (eq-eqb (p - 1) (p - 1) refl)

-- for `search (rules, built)`
pub ruleset built = (built_start, built_skip, built_next, built_room, built_end)
