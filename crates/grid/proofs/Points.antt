-- The points of the grid: one further is one spacing higher; those of the plans are above zero; which grid number stands at a frequency.
-- Assumes nothing.
use Prim.Native.Nat.{ℕ, zero, suc, ◌*◌, ◌≤◌, ◌<◌}
use mathlib.Core.Path.{◌≡◌, refl, sym, ap, ◌∙◌}
use native.Mathlib.Nat.{le_trans, zero-mul, suc-mul, mul-le-mul}
use native.Mathlib.Omega.{arith}
use lib.Dec.{leb→le}
use lib.IntN.{ℤ, pos, negsuc, neg_ℤ, nat_abs, suc_ℤ, ◌+ℤ◌, ◌-ℤ◌, ◌*ℤ◌, suc_ℤ-*ℤ, +ℤ-suc_ℤ, +ℤ_assoc, +ℤ_idr}
use lib.Signed.{◌≤ℤ◌, quot_z, rem_z}
use Rattle.grid.specs.Grid.{anchor, grid_point}
use Rattle.basis.proofs.Integers.{pos_minus, plus_minus, minus_plus, times_rem, times_quot, quot_times}

next : (s : ℕ) (n : ℤ) → grid_point s (suc_ℤ n) ≡ grid_point s n +ℤ pos s
next s n = ap (λ x. pos anchor +ℤ x) (suc_ℤ-*ℤ n (pos s)) ∙ sym (+ℤ_assoc (pos anchor) (n *ℤ pos s) (pos s))

-- so many grid numbers further are so many spacings higher
pub further : (s : ℕ) (n : ℤ) (w : ℕ) → grid_point s (n +ℤ pos w) ≡ grid_point s n +ℤ pos (w * s)
further s n zero = ap (grid_point s) (+ℤ_idr n) ∙ sym (+ℤ_idr (grid_point s n)) ∙ ap (λ x. grid_point s n +ℤ pos x) (sym (zero-mul s))
further s n (suc w) =
    ap (grid_point s) (+ℤ-suc_ℤ n (pos w))
    ∙ next s (n +ℤ pos w)
    ∙ ap (λ x. x +ℤ pos s) (further s n w)
    ∙ +ℤ_assoc (grid_point s n) (pos (w * s)) (pos s)
    ∙ ap (λ x. grid_point s n +ℤ pos x) (sym (suc-mul w s))

-- from grid number −200 on no point is below zero
pub point_above : (s : ℕ) (n : ℤ) → s ≤ 1000 → neg_ℤ (pos 200) ≤ℤ n → grid_point s n ≡ pos (nat_abs (grid_point s n))
point_above s (pos a) h low = refl
point_above s (negsuc a) h low = let e = pos_minus anchor (suc a * s) under in e ∙ ap (λ x. pos (nat_abs x)) (sym e)
  where
    under : suc a * s ≤ anchor
    under =
        let l = leb→le a 199 low.le in
        let few : suc a ≤ 200 = omega arith in
        let m : suc a * s ≤ 200 * 1000 = mul-le-mul few h in
        le_trans m (omega arith)

-- at a frequency d away from 193.1 THz stands the grid number n where d is n spacings
pub at_number : (s : ℕ) (n : ℤ) (f : ℕ) → 0 < s → grid_point s n ≡ pos f
    → (rem_z (pos f -ℤ pos anchor) (pos s) ≡ pos 0) × (quot_z (pos f -ℤ pos anchor) (pos s) ≡ n)
at_number s n f h e = (ap (λ x. rem_z x (pos s)) d ∙ times_rem n s, ap (λ x. quot_z x (pos s)) d ∙ times_quot n s h)
  where
    d : pos f -ℤ pos anchor ≡ n *ℤ pos s
    d = ap (λ x. x -ℤ pos anchor) (sym e) ∙ plus_minus (pos anchor) (n *ℤ pos s)

-- and where it is so many spacings and nothing more, there stands their number
pub number_at : (s : ℕ) (f : ℕ) → rem_z (pos f -ℤ pos anchor) (pos s) ≡ pos 0 → grid_point s (quot_z (pos f -ℤ pos anchor) (pos s)) ≡ pos f
number_at s f e = ap (λ x. pos anchor +ℤ x) (quot_times (pos f -ℤ pos anchor) s e) ∙ minus_plus (pos anchor) (pos f)
