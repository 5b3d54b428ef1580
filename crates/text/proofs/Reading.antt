-- Reading a number digit by digit. Assumes nothing.
use mathlib.Core.Path.{◌≡◌, refl, sym, ◌∙◌}
use mathlib.Core.Bool.{Bool, true, false}
use mathlib.Core.List.{List, [], ◌∷◌}
use Prim.Native.Nat.{ℕ, ◌+◌, ◌-◌, ◌*◌, ◌≤◌, ◌<◌}
use native.Mathlib.Omega.{arith}
use native.Mathlib.Numerals.{add-one}
use lib.Dec.{ltb}
use lib.ListN.{length, drop, get_or, drop_of_length-le}
use lib.Seq.{drop-cons}
use borrow.Author.Tests.{lt-ltb, le-ltb, ltb-true}
use Rattle.std.specs.Prelude.{Some, None}
use Rattle.text.specs.Number.{is_digit, number_after, number}

-- a value that is too wide stays so
too_wide : (limit v : ℕ) (s : List ℕ) → limit ≤ v → number_after limit v s ≡ None
unfolding number_after
too_wide limit v [] h = rw (le-ltb v limit h)
too_wide limit v (x ∷ s) h = go (is_digit x) refl (too_wide limit (v * 10 + (x - 48)) s (omega arith))
  where
    go : (t : Bool) → is_digit x ≡ t → number_after limit (v * 10 + (x - 48)) s ≡ None → number_after limit v (x ∷ s) ≡ None
    go true e ih = rw e ih
    go false e ih = rw e

-- the first i bytes of the word are digits, of the value v
pub record Reading (most : ℕ) (word : List ℕ) (v i : ℕ) : Type 0 where
  pub is : number (most + 1) word ≡ number_after (most + 1) v (drop i word)
  pub small : v ≤ most

module _ (most : ℕ) where
  pub no_digit_lem : (word : List ℕ) → length word ≡ 0 → None ≡ number (most + 1) word
  unfolding number
  no_digit_lem [] h = refl
  no_digit_lem (x ∷ s) h = absurd (omega arith)

  pub reading_none : (word : List ℕ) → (length word ≡ 0 → ⊥) → Reading most word 0 0
  unfolding number
  reading_none [] h = absurd (h refl)
  reading_none (x ∷ s) h = record { is = refl; small = omega arith }

module _ (most : ℕ) (word : List ℕ) (v i : ℕ) (q : Reading most word v i) where
  pub reading_end : length word ≤ i → Some v ≡ number (most + 1) word
  unfolding number_after
  reading_end h = sym (q.is ∙ rw (drop_of_length-le word h, lt-ltb v (most + 1) (omega (arith, q.small))))

  module _ (h : i < length word) where
    pub reading_other : is_digit (get_or word i 0) ≡ false → None ≡ number (most + 1) word
    unfolding number_after
    reading_other d = sym (q.is ∙ rw (drop-cons word i 0, d))

    module _ (d : is_digit (get_or word i 0) ≡ true) where
      more : number (most + 1) word ≡ number_after (most + 1) (v * 10 + (get_or word i 0 - 48)) (drop (i + 1) word)
      unfolding number_after
      more = q.is ∙ rw (drop-cons word i 0, d, add-one i)

      -- one more digit is too many
      pub reading_wide : most < v * 10 + (get_or word i 0 - 48) → None ≡ number (most + 1) word
      reading_wide w = sym (more ∙ too_wide (most + 1) _ (drop (i + 1) word) (omega arith))

      pub reading_next : v * 10 + (get_or word i 0 - 48) ≤ most → Reading most word (v * 10 + (get_or word i 0 - 48)) (i + 1)
      reading_next l = record { is = more; small = l }

pub ruleset reading = (no_digit_lem, reading_none, reading_end, reading_other, reading_wide, reading_next)

-- a number that was read is below the limit, and has a digit
after_small : (limit v : ℕ) (s : List ℕ) (n : ℕ) → number_after limit v s ≡ Some n → n < limit
unfolding number_after
after_small limit v [] n e = go (ltb v limit) refl
  where
    go : (t : Bool) → ltb v limit ≡ t → n < limit
    go true k = let k' : Some v ≡ Some n = rw k at e in let h : v ≡ n = cc in omega (arith, ltb-true v limit k)
    go false k = let k' : None ≡ Some n = rw k at e in let z : ◌≡◌ {A = ℕ} 0 1 = cc in absurd (omega arith)
after_small limit v (x ∷ s) n e = go (is_digit x) refl (after_small limit (v * 10 + (x - 48)) s n)
  where
    go : (t : Bool) → is_digit x ≡ t → (number_after limit (v * 10 + (x - 48)) s ≡ Some n → n < limit) → n < limit
    go true k ih = ih (rw k at e)
    go false k ih = let k' : None ≡ Some n = rw k at e in let z : ◌≡◌ {A = ℕ} 0 1 = cc in absurd (omega arith)

pub number_small : (limit : ℕ) (word : List ℕ) (n : ℕ) → number limit word ≡ Some n → n < limit
unfolding number
number_small limit [] n e = let z : ◌≡◌ {A = ℕ} 0 1 = cc in absurd (omega arith)
number_small limit (x ∷ s) n e = after_small limit 0 (x ∷ s) n e

pub number_some : (limit : ℕ) (word : List ℕ) (n : ℕ) → number limit word ≡ Some n → 1 ≤ length word
unfolding number
number_some limit [] n e = let z : ◌≡◌ {A = ℕ} 0 1 = cc in absurd (omega arith)
number_some limit (x ∷ s) n e = omega arith
