-- The digits of a number counted. Assumes nothing.
use Prim.Native.Nat.{ℕ, zero, suc, ◌+◌, ◌*◌, ◌/◌, ◌^◌, ◌≤◌, ◌<◌}
use mathlib.Core.Path.{◌≡◌}
use native.Mathlib.Nat.{pow-suc}
use native.Mathlib.Omega.{arith}
use lib.ListN.{length, length-append}
use Rattle.std.specs.Prelude.{Option, Some, None}
use Rattle.std.specs.Option.{IfSome, IfNone, unwrap_or}
use Rattle.text.specs.Decimal.{decimal, most_digits}
use Rattle.text.proofs.Decimal.{decimal_small, decimal_large}

-- a number of the powers of ten
digits_are : (k n : ℕ) → 10 ^ k ≤ n → n < 10 * 10 ^ k → length (decimal n) ≡ k + 1
digits_are zero n h g = let l : n < 10 = omega arith in rw (decimal_small n l) (omega arith)
digits_are (suc k) n h g =
    let p : 10 ^ suc k ≡ 10 ^ k * 10 = pow-suc 10 k in
    let some : 1 ≤ 10 ^ k = power_some k in
    let l : 10 ≤ n = omega (arith, p, some) in
    let ih : length (decimal (n / 10)) ≡ k + 1 = digits_are k (n / 10) (omega (arith, p)) (omega (arith, p)) in
    rw (decimal_large n l, length-append) (omega (arith, ih))
  where
    power_some : (k : ℕ) → 1 ≤ 10 ^ k
    power_some zero = omega arith
    power_some (suc k) = omega (arith, pow-suc 10 k, power_some k)

-- a number has one more digit than the power of ten that it reaches, and 0 has one
pub digits_counted : (n : ℕ) (r : Option ℕ) → IfNone r (n ≡ 0) → IfSome r (λ k. 10 ^ k ≤ n) → IfSome r (λ k. n < 10 * 10 ^ k) → (p : ℕ) → p ≡ unwrap_or r 0
    → p + 1 ≡ length (decimal n)
digits_counted n None z h g p e = let l : n < 10 = omega (arith, z) in rw (e, decimal_small n l)
digits_counted n (Some k) z h g p e = rw (e, digits_are k n h g)

pub few_digits : (r : Option ℕ) → IfSome r (λ k. k < 10) → (p : ℕ) → p ≡ unwrap_or r 0 → p + 1 ≤ most_digits
few_digits None h p e = omega (arith, e)
few_digits (Some k) h p e = omega (arith, e, h)
