-- Comparisons of numbers: which are one test, and what they count. Assumes nothing.
use Prim.Native.Nat.{ℕ, ◌+◌, ◌<◌}
use mathlib.Core.Path.{◌≡◌, refl, sym}
use mathlib.Core.Logic.{◌≢◌}
use mathlib.Core.Bool.{Bool, true, false, not}
use native.Mathlib.Decide.{dec_lt, ℕ_discrete}
use native.Mathlib.Omega.{arith}
use lib.Dec.{eqb, ltb}
use borrow.Author.Tests.{eqb-true, eq-eqb, ltb-true, lt-ltb, le-ltb}
use Rattle.basis.specs.Choice.{bit}
use Rattle.basis.proofs.Bools.{same_test, bit_eq, bit_ne}

-- two comparisons of which each holds where the other does are one test
pub ltb_same : (a b x y : ℕ) → (a < b → x < y) → (x < y → a < b) → ltb a b ≡ ltb x y
ltb_same a b x y f g = same_test _ _ (λ h. lt-ltb x y (f (ltb-true a b h))) (λ h. lt-ltb a b (g (ltb-true x y h)))

-- an equality is one test either way round
pub eqb_swap : (m n : ℕ) → eqb m n ≡ eqb n m
eqb_swap m n = same_test _ _ (λ h. eq-eqb n m (sym (eqb-true m n h))) (λ h. eq-eqb m n (sym (eqb-true n m h)))

-- a test and its opposite count 1
pub bit_not : (b : Bool) → bit (not b) + bit b ≡ 1
bit_not true = refl
bit_not false = refl

-- of two numbers that differ one is below the other
pub bit_apart : (x y : ℕ) → x ≢ y → bit (ltb x y) + bit (ltb y x) ≡ 1
bit_apart x y n = go (dec_lt x y)
  where
    go : Dec (x < y) → bit (ltb x y) + bit (ltb y x) ≡ 1
    go (yes l) = rw (lt-ltb x y l, le-ltb y x (omega arith))
    go (no m) = rw (le-ltb x y (omega arith), lt-ltb y x (omega (arith, n)))

-- what is above x is the next number or above that
pub bit_above : (x y : ℕ) → bit (ltb x y) ≡ bit (ltb (x + 1) y) + bit (eqb y (x + 1))
bit_above x y = go (dec_lt x y) (ℕ_discrete y (x + 1))
  where
    go : Dec (x < y) → Dec (y ≡ x + 1) → bit (ltb x y) ≡ bit (ltb (x + 1) y) + bit (eqb y (x + 1))
    go (yes l) (yes e) = rw (lt-ltb x y l, le-ltb (x + 1) y (omega arith), bit_eq y (x + 1) e)
    go (yes l) (no n) = rw (lt-ltb x y l, lt-ltb (x + 1) y (omega (arith, n)), bit_ne y (x + 1) n)
    go (no m) (yes e) = absurd (omega arith)
    go (no m) (no n) = rw (le-ltb x y (omega arith), le-ltb (x + 1) y (omega arith), bit_ne y (x + 1) n)
