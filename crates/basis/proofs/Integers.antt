-- Integers: how large sums, products and quotients are, multiples, and the division that rounds towards zero. Assumes nothing.
use Prim.Native.Nat.{ℕ, zero, suc, ◌+◌, ◌-◌, ◌*◌, ◌/◌, ◌%◌, ◌^◌, ◌≤◌, ◌<◌}
use mathlib.Core.Path.{◌≡◌, refl, sym, ap, subst, ◌∙◌}
use mathlib.Core.Bool.{Bool, true, false, not, cond}
use native.Mathlib.Nat.{le_trans, lt_of_le_of_lt, add-zero, zero-mul, zero-mod, zero-div, div-le_self, div-add-mod', mul-mod_left, mul-div_cancel, mul-le-mul_right}
use native.Mathlib.Omega.{arith}
use lib.Dec.{T, ltb, ltb→lt}
use lib.IntN.{ℤ, pos, negsuc, neg_ℤ, nat_abs, sub_ℕ, ◌+ℤ◌, ◌-ℤ◌, ◌*ℤ◌, pos-ne-negsuc, +ℤ_comm, +ℤ-neg_ℤ_cancel, -ℤ-+ℤ_cancel}
use lib.Signed.{◌≤ℤ◌, mag, lt_z, le_z, quot_z, rem_z}
use mir.Syntax.{Width}
use mir.Val.{SFits, hbits}
use borrow.Author.Tests.{le-ltb}
use Rattle.basis.proofs.Bools.{not_leb}

-- a number taken below zero is smaller by one
pub mag_below : (k a : ℕ) → k ≤ suc a → mag (neg_ℤ (pos k)) ≤ a
mag_below zero a h = omega arith
mag_below (suc k) a h = omega arith

-- turned round, one is larger by one at most
pub mag_neg : (z : ℤ) → mag (neg_ℤ z) ≤ suc (mag z)
mag_neg (pos zero) = omega arith
mag_neg (pos (suc m)) = omega arith
mag_neg (negsuc m) = omega arith

mag_sub : (a b : ℕ) → mag (sub_ℕ a b) ≤ a + b
mag_sub a b = go (ltb a b)
  where
    go : (o : Bool) → mag (cond o (negsuc (b - suc a)) (pos (a - b))) ≤ a + b
    go true = omega arith
    go false = omega arith

-- how large a sum is
pub mag_sum : (a b : ℤ) → mag (a +ℤ b) ≤ suc (mag a + mag b)
mag_sum (pos a) (pos b) = omega arith
mag_sum (pos a) (negsuc b) = le_trans (mag_sub a (suc b)) (omega arith)
mag_sum (negsuc a) (pos b) = le_trans (mag_sub b (suc a)) (omega arith)
mag_sum (negsuc a) (negsuc b) = omega arith

-- a product
pub mag_times : (z : ℤ) (s : ℕ) → mag (z *ℤ pos s) ≤ suc (mag z) * s
mag_times (pos a) s = mul-le-mul_right s (omega arith)
mag_times (negsuc a) s = mag_below (suc a * s) (suc a * s) (omega arith)

-- and a quotient, which is never larger than what is divided
pub mag_quot : (z : ℤ) (s : ℕ) → mag (quot_z z (pos s)) ≤ mag z
mag_quot (pos a) s = div-le_self a s
mag_quot (negsuc a) s = mag_below (suc a / s) a (div-le_self (suc a) s)

-- a number that is not larger than one that fits
pub sfits_most : (w : Width) (m : ℕ) (z : ℤ) → mag z ≤ m → T (ltb m (2 ^ hbits w)) → SFits w z
sfits_most w m z h t = record { sfits = lt_of_le_of_lt h (ltb→lt m (2 ^ hbits w) t) }

-- what is added is what is left when the other is taken away
pub plus_minus : (a b : ℤ) → (a +ℤ b) -ℤ a ≡ b
plus_minus a b = ap (λ x. x -ℤ a) (+ℤ_comm a b) ∙ +ℤ-neg_ℤ_cancel b a

pub minus_plus : (a b : ℤ) → a +ℤ (b -ℤ a) ≡ b
minus_plus a b = +ℤ_comm a (b -ℤ a) ∙ -ℤ-+ℤ_cancel b a

-- a number taken from one that is not smaller
pub pos_minus : (c m : ℕ) → m ≤ c → pos c +ℤ neg_ℤ (pos m) ≡ pos (c - m)
pos_minus c zero h = ap pos (omega arith)
pos_minus c (suc m) h = rw (le-ltb c (suc m) h)

-- a multiple, its remainder and its quotient, below zero
neg_times : (q s : ℕ) → neg_ℤ (pos q) *ℤ pos s ≡ neg_ℤ (pos (q * s))
neg_times zero s = rw (zero-mul s)
neg_times (suc q) s = refl

rem_neg : (m s : ℕ) → rem_z (neg_ℤ (pos m)) (pos s) ≡ neg_ℤ (pos (m % s))
rem_neg zero s = rw (zero-mod s)
rem_neg (suc m) s = refl

quot_neg : (m s : ℕ) → quot_z (neg_ℤ (pos m)) (pos s) ≡ neg_ℤ (pos (m / s))
quot_neg zero s = rw (zero-div s)
quot_neg (suc m) s = refl

neg_zero : (m : ℕ) → neg_ℤ (pos m) ≡ pos 0 → m ≡ 0
neg_zero zero e = refl
neg_zero (suc m) e = absurd (pos-ne-negsuc 0 m (sym e))

-- of a multiple nothing is left over
pub times_rem : (z : ℤ) (s : ℕ) → rem_z (z *ℤ pos s) (pos s) ≡ pos 0
times_rem (pos a) s = ap pos (mul-mod_left a s)
times_rem (negsuc a) s = rem_neg (suc a * s) s ∙ ap (λ x. neg_ℤ (pos x)) (mul-mod_left (suc a) s)

-- and the division gives the factor
pub times_quot : (z : ℤ) (s : ℕ) → 0 < s → quot_z (z *ℤ pos s) (pos s) ≡ z
times_quot (pos a) s h = ap pos (mul-div_cancel a h)
times_quot (negsuc a) s h = quot_neg (suc a * s) s ∙ ap (λ x. neg_ℤ (pos x)) (mul-div_cancel (suc a) h)

whole : (a s : ℕ) → a % s ≡ 0 → a / s * s ≡ a
whole a s e = sym (add-zero (a / s * s)) ∙ ap (λ x. a / s * s + x) (sym e) ∙ div-add-mod' a s

-- where nothing is left over, the quotient's multiple is the number
pub quot_times : (d : ℤ) (s : ℕ) → rem_z d (pos s) ≡ pos 0 → quot_z d (pos s) *ℤ pos s ≡ d
quot_times (pos a) s e = ap pos (whole a s (ap nat_abs e))
quot_times (negsuc a) s e = neg_times (suc a / s) s ∙ ap (λ x. neg_ℤ (pos x)) (whole (suc a) s (neg_zero (suc a % s) e))

-- what has no size is zero
pub abs_zero : (z : ℤ) → nat_abs z ≡ 0 → z ≡ pos 0
abs_zero (pos m) e = ap pos e
abs_zero (negsuc m) e = absurd (omega arith)

-- a test of order that passes
pub le_z_true : (a b : ℤ) → le_z a b ≡ true → a ≤ℤ b
le_z_true a b e = record { le = subst T (sym e) tt }

-- not at most is above
pub not_le_z : (a b : ℤ) → not (le_z a b) ≡ lt_z b a
not_le_z (pos a) (pos b) = not_leb a b
not_le_z (pos a) (negsuc b) = refl
not_le_z (negsuc a) (pos b) = refl
not_le_z (negsuc a) (negsuc b) = not_leb b a
