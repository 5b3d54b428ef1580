-- A printed number is read back as the number; and how long it is. Assumes nothing.
use mathlib.Core.Path.{◌≡◌, refl, ap, ◌∙◌}
use mathlib.Core.Bool.{Bool, true, false}
use mathlib.Core.List.{List, [], ◌∷◌, ◌++◌, append_assoc, append-nil}
use Prim.Native.Nat.{ℕ, zero, suc, ◌+◌, ◌-◌, ◌*◌, ◌/◌, ◌%◌, ◌^◌, ◌≤◌, ◌<◌}
use native.Mathlib.Omega.{arith}
use native.Mathlib.Nat.{zero-add, pow-suc}
use lib.Dec.{ltb}
use lib.ListN.{length, length-append}
use borrow.Author.Tests.{lt-ltb, le-leb, ltb-false, ltb-true}
use Rattle.std.specs.Prelude.{Some}
use Rattle.text.specs.Decimal.{decimal}
use Rattle.text.specs.Number.{is_digit, number_after, number}
use Rattle.text.proofs.Decimal.{decimal_small, decimal_large}

-- what holds of one digit, and of a number where it holds of the digits before the last, holds of all numbers
module _ (P : ℕ → Type 0) (small : (n : ℕ) → n < 10 → P n) (large : (n : ℕ) → 10 ≤ n → P (n / 10) → P n) where
  up_to : (k n : ℕ) → n ≤ k → P n
  up_to zero n h = small n (omega arith)
  up_to (suc k) n h = go (ltb n 10) refl (λ l. up_to k (n / 10) (omega arith))
    where
      go : (t : Bool) → ltb n 10 ≡ t → (10 ≤ n → P (n / 10)) → P n
      go true e ih = small n (ltb-true n 10 e)
      go false e ih = large n (ltb-false n 10 e) (ih (ltb-false n 10 e))

  by_digits : (n : ℕ) → P n
  by_digits n = up_to n n (omega arith)

-- the byte of a digit is one
digit_is : (d : ℕ) → d < 10 → is_digit (48 + d) ≡ true
digit_is d h = rw (le-leb 48 (48 + d) (omega arith), le-leb (48 + d) 57 (omega arith))

-- one more digit
one_more : (limit v d : ℕ) (s : List ℕ) → d < 10 → number_after limit v ((48 + d) ∷ s) ≡ number_after limit (v * 10 + d) s
unfolding number_after
one_more limit v d s h = let e : 48 + d - 48 ≡ d = omega arith in rw (digit_is d h, e)

-- the digits of n are read as n
read_back : (limit n : ℕ) (s : List ℕ) → number limit (decimal n ++ s) ≡ number_after limit n s
unfolding number
read_back limit =
    by_digits (λ n. (s : List ℕ) → number limit (decimal n ++ s) ≡ number_after limit n s)
    (λ n h s. rw (decimal_small n h) (one_more limit 0 n s h ∙ rw zero-add))
    (λ n h ih s. let e : n / 10 * 10 + n % 10 ≡ n = omega arith in
    rw (decimal_large n h, append_assoc) (ih ((48 + n % 10) ∷ s) ∙ one_more limit (n / 10) (n % 10) s (omega arith) ∙ rw e))

-- Law: a number below the limit, printed and read, is the number
pub there_and_back_lem : (limit n : ℕ) → n < limit → number limit (decimal n) ≡ Some n
unfolding number_after
there_and_back_lem limit n h = rw (← append-nil (decimal n)) (read_back limit n [] ∙ rw (lt-ltb n limit h))

-- a number below 10 ^ (m + 1) has at most m + 1 digits
pub decimal_short : (m n : ℕ) → n < 10 ^ suc m → length (decimal n) ≤ suc m
decimal_short zero n h = rw (decimal_small n h) (omega arith)
decimal_short (suc m) n h = go (ltb n 10) refl (λ l. decimal_short m (n / 10) (let e : 10 ^ suc (suc m) ≡ 10 ^ suc m * 10 = pow-suc 10 (suc m) in omega arith))
  where
    go : (t : Bool) → ltb n 10 ≡ t → (10 ≤ n → length (decimal (n / 10)) ≤ suc m) → length (decimal n) ≤ suc (suc m)
    go true e ih = rw (decimal_small n (ltb-true n 10 e)) (omega arith)
    go false e ih = let l : 10 ≤ n = ltb-false n 10 e in omega (arith, ih l, ap length (decimal_large n l), length-append (decimal (n / 10)) ((48 + n % 10) ∷ []))
