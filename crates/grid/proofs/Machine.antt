-- Numbers as the machine has them: what is read back from their bits, and that nothing wraps. Assumes nothing.
use Prim.Native.Nat.{ℕ, suc, ◌*◌, ◌^◌, ◌≤◌, ◌<◌}
use mathlib.Core.Path.{◌≡◌, sym, ap, subst, ◌∙◌}
use mathlib.Core.Bool.{true, false}
use native.Mathlib.Nat.{le_trans, lt_trans, lt_of_le_of_lt, mul-le-mul}
use native.Mathlib.Omega.{arith}
use lib.Dec.{T, lit<, leb→le}
use lib.IntN.{ℤ, pos, negsuc, neg_ℤ, nat_abs, ◌+ℤ◌, ◌-ℤ◌, ◌*ℤ◌}
use lib.Signed.{◌≤ℤ◌, mag, le_z, non_neg}
use mir.Syntax.{w32, w64}
use mir.Val.{Fits, SFits, to_z, of_z}
use mir.Facts.{to_z_pos, to_z-of_z}
use Rattle.grid.specs.Grid.{anchor, is_start, grid_point}
use Rattle.grid.specs.Number.{OnGrid}
use Rattle.basis.proofs.Integers.{mag_sum, mag_times, sfits_most}
use Rattle.grid.proofs.Points.{point_above}

-- a number of 32 bits in 64, and a spacing in 32
wide : (f : ℕ) → f < 2 ^ 32 → to_z w64 f ≡ pos f
wide f h = to_z_pos w64 (lt_trans h (lit< tt))

narrow : (s : ℕ) → s ≤ 1000 → to_z w32 s ≡ pos s
narrow s h = to_z_pos w32 (lt_of_le_of_lt h (lit< tt))

-- the distance of a frequency from 193.1 THz
pub from_anchor_size : (f : ℕ) → f < 2 ^ 32 → mag (pos f -ℤ pos anchor) ≤ 4296898296
from_anchor_size f h = le_trans (mag_sum (pos f) (negsuc 1930999)) (omega arith)

pub difference_fits : (f : ℕ) → f < 2 ^ 32 → SFits w64 (to_z w64 f -ℤ to_z w64 anchor)
difference_fits f h =
    subst (λ x. SFits w64 (x -ℤ pos anchor)) (sym (wide f h)) (sfits_most w64 4296898296 (pos f -ℤ pos anchor) (from_anchor_size f h) tt)

pub difference_is : (f : ℕ) → f < 2 ^ 32 → to_z w64 (of_z w64 (to_z w64 f -ℤ to_z w64 anchor)) ≡ pos f -ℤ pos anchor
difference_is f h = to_z-of_z (difference_fits f h) ∙ ap (λ x. x -ℤ pos anchor) (wide f h)

-- whether a plan may start at a number, in two tests
module _ (n : ℤ) (fits : SFits w32 n) where
  pub start_low : le_z (negsuc 199) (to_z w32 (of_z w32 n)) ≡ true → le_z (to_z w32 (of_z w32 n)) (pos 200) ≡ is_start n
  start_low h = rw (to_z-of_z fits) (rw (rw (to_z-of_z fits) at h))

  pub start_below : le_z (negsuc 199) (to_z w32 (of_z w32 n)) ≡ false → le_z (negsuc 199) (to_z w32 (of_z w32 n)) ≡ is_start n
  start_below h = let e : le_z (negsuc 199) n ≡ false = rw (to_z-of_z fits) at h in rw (to_z-of_z fits, e)

-- how far from zero a grid number of the plans is
pub number_size : (n : ℤ) (m : ℕ) → 199 ≤ m → neg_ℤ (pos 200) ≤ℤ n → n ≤ℤ pos m → mag n ≤ m
number_size (pos a) m h low high = leb→le a m high.le
number_size (negsuc a) m h low high = le_trans (leb→le a 199 low.le) h

-- the frequency at a grid number
module _ (s : ℕ) (n : ℤ) (on : OnGrid s n) where
  size : mag n ≤ 263
  size = number_size n 263 (omega arith) on.low on.high

  number : to_z w32 (of_z w32 n) ≡ n
  number = to_z-of_z (sfits_most w32 263 n size tt)

  times : to_z w32 (of_z w32 n) *ℤ to_z w32 s ≡ n *ℤ pos s
  times i = number i *ℤ narrow s on.narrow i

  times_size : mag (n *ℤ pos s) ≤ 264000
  times_size = let few : suc (mag n) ≤ 264 = omega (arith, size) in let m : suc (mag n) * s ≤ 264 * 1000 = mul-le-mul few on.narrow in le_trans (mag_times n s) m

  pub times_fits : SFits w32 (to_z w32 (of_z w32 n) *ℤ to_z w32 s)
  times_fits = subst (λ x. SFits w32 x) (sym times) (sfits_most w32 264000 (n *ℤ pos s) times_size tt)

  point : pos anchor +ℤ to_z w32 (of_z w32 (to_z w32 (of_z w32 n) *ℤ to_z w32 s)) ≡ grid_point s n
  point = ap (λ x. pos anchor +ℤ x) (to_z-of_z times_fits ∙ times)

  point_size : mag (grid_point s n) ≤ 2195001
  point_size = le_trans (mag_sum (pos anchor) (n *ℤ pos s)) (omega (arith, times_size))

  pub point_fits : SFits w32 (pos anchor +ℤ to_z w32 (of_z w32 (to_z w32 (of_z w32 n) *ℤ to_z w32 s)))
  point_fits = subst (λ x. SFits w32 x) (sym point) (sfits_most w32 2195001 (grid_point s n) point_size tt)

  read : to_z w32 (of_z w32 (pos anchor +ℤ to_z w32 (of_z w32 (to_z w32 (of_z w32 n) *ℤ to_z w32 s)))) ≡ pos (nat_abs (grid_point s n))
  read = to_z-of_z point_fits ∙ point ∙ point_above s n on.narrow on.low

  abs_size : nat_abs (grid_point s n) < 2 ^ 32
  abs_size = lt_of_le_of_lt (subst (λ x. mag x ≤ 2195001) (point_above s n on.narrow on.low) point_size) (lit< tt)

  pub point_unsigned :
      T (non_neg (to_z w32 (of_z w32 (pos anchor +ℤ to_z w32 (of_z w32 (to_z w32 (of_z w32 n) *ℤ to_z w32 s))))))
      × Fits w32 (nat_abs (to_z w32 (of_z w32 (pos anchor +ℤ to_z w32 (of_z w32 (to_z w32 (of_z w32 n) *ℤ to_z w32 s))))))
  point_unsigned = subst (λ x. T (non_neg x) × Fits w32 (nat_abs x)) (sym read) (tt, record { fits = abs_size })

  pub point_is : pos (nat_abs (to_z w32 (of_z w32 (pos anchor +ℤ to_z w32 (of_z w32 (to_z w32 (of_z w32 n) *ℤ to_z w32 s)))))) ≡ grid_point s n
  point_is = ap (λ x. pos (nat_abs x)) read ∙ sym (point_above s n on.narrow on.low)
