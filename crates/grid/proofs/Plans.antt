-- A plan of the grid: its frequencies stand one spacing apart, and where a division finds them. Assumes nothing.
use Prim.Native.Nat.{ℕ, ◌+◌, ◌*◌, ◌≤◌, ◌<◌}
use mathlib.Core.Path.{◌≡◌, sym, ap, ◌∙◌}
use mathlib.Core.Logic.{◌⊎◌, inl, inr}
use mathlib.Core.Bool.{true, false, ◌||◌}
use native.Mathlib.Nat.{add_assoc, add-mul, add_left_cancel, eq_of_mul-eq-mul_right}
use native.Mathlib.Omega.{arith}
use lib.Dec.{eqb}
use lib.IntN.{pos, neg_ℤ, nat_abs, ◌+ℤ◌, ◌-ℤ◌}
use lib.Signed.{◌≤ℤ◌, le_z, quot_z, rem_z}
use borrow.Author.Tests.{eqb-true}
use Rattle.basis.proofs.Bools.{and_left, and_right, or_true, fails}
use Rattle.grid.specs.Grid.{GridPlan, anchor, is_spacing, is_start, is_plan, grid_point, frequency_at}
use Rattle.basis.proofs.Integers.{le_z_true, plus_minus, minus_plus}
use Rattle.grid.proofs.Points.{further, point_above, at_number, number_at}

-- what it is to be a plan of the grid, in numbers: the spacing is above zero and at most 100 GHz
pub record Held (p : GridPlan) : Type 0 where
  pub some : 0 < p.spacing
  pub narrow : p.spacing ≤ 1000
  pub low : neg_ℤ (pos 200) ≤ℤ p.start
  pub high : p.start ≤ℤ pos 200

-- the four spacings, one by one
abbrev OneOf : ℕ → Type 0
OneOf s = (s ≡ 125) ⊎ ((s ≡ 250) ⊎ ((s ≡ 500) ⊎ (s ≡ 1000)))

one_of : (s : ℕ) → is_spacing s ≡ true → OneOf s
one_of s e = go_4 (or_true (eqb s 125 || eqb s 250 || eqb s 500) (eqb s 1000) e)
  where
    go_2 : (eqb s 125 ≡ true) ⊎ (eqb s 250 ≡ true) → OneOf s
    go_2 (inl h) = inl (eqb-true s 125 h)
    go_2 (inr h) = inr (inl (eqb-true s 250 h))

    go_3 : ((eqb s 125 || eqb s 250) ≡ true) ⊎ (eqb s 500 ≡ true) → OneOf s
    go_3 (inl h) = go_2 (or_true (eqb s 125) (eqb s 250) h)
    go_3 (inr h) = inr (inr (inl (eqb-true s 500 h)))

    go_4 : ((eqb s 125 || eqb s 250 || eqb s 500) ≡ true) ⊎ (eqb s 1000 ≡ true) → OneOf s
    go_4 (inl h) = go_3 (or_true (eqb s 125 || eqb s 250) (eqb s 500) h)
    go_4 (inr h) = inr (inr (inr (eqb-true s 1000 h)))

pub is_one : (s : ℕ) → OneOf s → true ≡ is_spacing s
is_one s (inl e) = rw e
is_one s (inr (inl e)) = rw e
is_one s (inr (inr (inl e))) = rw e
is_one s (inr (inr (inr e))) = rw e

pub is_none : (s : ℕ) → (OneOf s → ⊥) → false ≡ is_spacing s
is_none s h = fails (is_spacing s) (λ e. h (one_of s e))

spacing_size : (s : ℕ) → OneOf s → (0 < s) × (s ≤ 1000)
spacing_size s (inl e) = (omega arith, omega arith)
spacing_size s (inr (inl e)) = (omega arith, omega arith)
spacing_size s (inr (inr (inl e))) = (omega arith, omega arith)
spacing_size s (inr (inr (inr e))) = (omega arith, omega arith)

pub held : (p : GridPlan) → is_plan p ≡ true → Held p
held p e =
    let s = spacing_size p.spacing (one_of p.spacing (and_left _ (is_start p.start) e)) in
    let n = and_right (is_spacing p.spacing) _ e in
    record {
      some = s.0;
      narrow = s.1;
      low = le_z_true _ _ (and_left _ (le_z p.start (pos 200)) n);
      high = le_z_true _ _ (and_right (le_z (neg_ℤ (pos 200)) p.start) _ n);
    }

-- the frequency of wavelength w is w spacings above that of wavelength 0
at_point : (p : GridPlan) → is_plan p ≡ true → (w : ℕ)
    → grid_point p.spacing (p.start +ℤ pos w) ≡ pos (nat_abs (grid_point p.spacing p.start) + w * p.spacing)
at_point p e w =
    let h = held p e in
    further p.spacing p.start w ∙ ap (λ x. x +ℤ pos (w * p.spacing)) (point_above p.spacing p.start h.narrow h.low)

-- 02, E3: no frequency of a plan is below zero
pub above_zero : (p : GridPlan) → is_plan p ≡ true → (w : ℕ) → pos (frequency_at p w) ≡ grid_point p.spacing (p.start +ℤ pos w)
unfolding frequency_at
above_zero p e w = ap (λ x. pos (nat_abs x)) (at_point p e w) ∙ sym (at_point p e w)

from_start : (p : GridPlan) → is_plan p ≡ true → (w : ℕ) → frequency_at p w ≡ nat_abs (grid_point p.spacing p.start) + w * p.spacing
unfolding frequency_at
from_start p e w = ap nat_abs (at_point p e w)

-- 02, E3: two wavelengths of a plan stand as many spacings apart as their numbers differ
pub spaced : (p : GridPlan) → is_plan p ≡ true → (w k : ℕ) → frequency_at p (w + k) ≡ frequency_at p w + k * p.spacing
spaced p e w k =
    from_start p e (w + k)
    ∙ ap (λ x. nat_abs (grid_point p.spacing p.start) + x) (add-mul w k p.spacing)
    ∙ sym (add_assoc (nat_abs (grid_point p.spacing p.start)) (w * p.spacing) (k * p.spacing))
    ∙ ap (λ x. x + k * p.spacing) (sym (from_start p e w))

-- so one frequency is that of one wavelength only
pub one_wavelength : (p : GridPlan) → is_plan p ≡ true → (w v : ℕ) → frequency_at p w ≡ frequency_at p v → w ≡ v
one_wavelength p e w v q =
    eq_of_mul-eq-mul_right p.spacing (held p e).some w v
    (add_left_cancel (nat_abs (grid_point p.spacing p.start)) (sym (from_start p e w) ∙ q ∙ from_start p e v))

-- a wavelength stands at f where the distance from 193.1 THz is a whole number of spacings, and that number less the start the wavelength
pub divides : (p : GridPlan) → is_plan p ≡ true → (w f : ℕ) → frequency_at p w ≡ f
    → (rem_z (pos f -ℤ pos anchor) (pos p.spacing) ≡ pos 0) × (quot_z (pos f -ℤ pos anchor) (pos p.spacing) -ℤ p.start ≡ pos w)
divides p e w f q =
    let d = at_number p.spacing (p.start +ℤ pos w) f (held p e).some (sym (above_zero p e w) ∙ ap pos q) in
    (d.0, ap (λ x. x -ℤ p.start) d.1 ∙ plus_minus p.start (pos w))

-- and only there
pub divided : (p : GridPlan) → is_plan p ≡ true → (w f : ℕ) → rem_z (pos f -ℤ pos anchor) (pos p.spacing) ≡ pos 0
    → quot_z (pos f -ℤ pos anchor) (pos p.spacing) -ℤ p.start ≡ pos w → frequency_at p w ≡ f
divided p e w f r q =
    ap nat_abs (above_zero p e w ∙ ap (grid_point p.spacing) number ∙ number_at p.spacing f r)
  where
    number : p.start +ℤ pos w ≡ quot_z (pos f -ℤ pos anchor) (pos p.spacing)
    number = ap (λ x. p.start +ℤ x) (sym q) ∙ minus_plus p.start (quot_z (pos f -ℤ pos anchor) (pos p.spacing))
