-- The way back: the distance from 193.1 THz divided by the spacing, and what follows for the wavelength at a frequency. Assumes nothing.
use Prim.Native.Nat.{ℕ, suc, ◌-◌, ◌^◌, ◌≤◌, ◌<◌}
use mathlib.Core.Path.{◌≡◌, refl, sym, ap, subst, ◌∙◌}
use mathlib.Core.Bool.{Bool, true, false, not, true≢false}
use native.Mathlib.Nat.{le_trans, lt_trans, lt_of_le_of_lt}
use native.Mathlib.Omega.{arith}
use lib.Dec.{T, lit<, eqb}
use lib.IntN.{ℤ, pos, negsuc, neg_ℤ, nat_abs, ◌-ℤ◌}
use lib.Signed.{mag, mag_rem, lt_z, non_neg, quot_z, rem_z}
use mir.Syntax.{w8, w32, w64}
use mir.Val.{Fits, SFits, to_z, of_z}
use mir.Facts.{to_z_pos, to_z-of_z}
use borrow.Author.Tests.{ltb-false, le-ltb, eqb-true, eq-eqb, ne_eqb, not-false}
use Rattle.refusals.specs.declared.Refusal.TheVariants.{OffPlan}
use Rattle.grid.specs.Grid.{GridPlan, anchor, is_plan, highest_wavelength, frequency_at}
use Rattle.grid.specs.Tuning.{carried_of}
use Rattle.grid.specs.Number.{is_whole}
use Rattle.basis.proofs.Integers.{mag_neg, mag_sum, mag_quot, sfits_most, abs_zero}
use Rattle.grid.proofs.Plans.{held, divides, divided}
use Rattle.grid.proofs.Laws.{carried_is, carried_none}
use Rattle.grid.proofs.Machine.{from_anchor_size, number_size}
use Rattle.std.specs.Prelude.{Ok, Err}

-- a distance and a spacing as the machine has them
module _ (d : ℤ) (s : ℕ) (fits : SFits w64 d) (bits : s < 2 ^ 32) (some : 0 < s) where
  distance : to_z w64 (of_z w64 d) ≡ d
  distance = to_z-of_z fits

  spacing : to_z w64 s ≡ pos s
  spacing = to_z_pos w64 (lt_trans bits (lit< tt))

  quotient : quot_z (to_z w64 (of_z w64 d)) (to_z w64 s) ≡ quot_z d (pos s)
  quotient i = quot_z (distance i) (spacing i)

  rest : rem_z (to_z w64 (of_z w64 d)) (to_z w64 s) ≡ rem_z d (pos s)
  rest i = rem_z (distance i) (spacing i)

  -- the division can be made
  pub quotient_needs : (0 < s) × SFits w64 (quot_z (to_z w64 (of_z w64 d)) (to_z w64 s))
  quotient_needs = (some, subst (λ x. SFits w64 x) (sym quotient) (record { sfits = lt_of_le_of_lt (mag_quot d s) fits.sfits }))

  -- gives the quotient
  pub quotient_is : to_z w64 (of_z w64 (quot_z (to_z w64 (of_z w64 d)) (to_z w64 s))) ≡ quot_z d (pos s)
  quotient_is = to_z-of_z quotient_needs.1 ∙ quotient

  -- and tells whether something is left over
  pub rest_is : eqb (of_z w64 (rem_z (to_z w64 (of_z w64 d)) (to_z w64 s))) 0 ≡ is_whole d s
  rest_is = ap (λ x. eqb (of_z w64 x) 0) rest ∙ zero_bits (rem_z d (pos s)) (lt_of_le_of_lt (mag_rem d (pos s)) fits.sfits)
    where
      zero_bits : (z : ℤ) → mag z < 2 ^ 63 → eqb (of_z w64 z) 0 ≡ eqb (nat_abs z) 0
      zero_bits (pos n) h = refl
      zero_bits (negsuc n) h = ne_eqb (2 ^ 64 - suc n) 0 (omega arith) ∙ sym (ne_eqb (suc n) 0 (omega arith))

-- a number that is neither below zero nor above 63
within : (z : ℤ) → lt_z z (pos 0) ≡ false → lt_z (pos 63) z ≡ false → (z ≡ pos (nat_abs z)) × (nat_abs z ≤ 63)
within (pos a) low high = (refl, ltb-false 63 a high)
within (negsuc a) low high = absurd (true≢false low)

-- the start as the machine has it
module _ (p : GridPlan) (plan : is_plan p ≡ true) where
  close : mag p.start ≤ 200
  close = let h = held p plan in number_size p.start 200 (omega arith) h.low h.high

  pub start_needs : SFits w64 (to_z w32 (of_z w32 p.start))
  start_needs = subst (λ x. SFits w64 x) (sym (to_z-of_z (sfits_most w32 200 p.start close tt))) (sfits_most w64 200 p.start close tt)

  start : to_z w64 (of_z w64 (to_z w32 (of_z w32 p.start))) ≡ p.start
  start = to_z-of_z start_needs ∙ to_z-of_z (sfits_most w32 200 p.start close tt)

-- d is the distance of a frequency f from 193.1 THz
module _ (p : GridPlan) (f : ℕ) (d : ℤ) (plan : is_plan p ≡ true) (fits : mag d < 2 ^ 63) (is : d ≡ pos f -ℤ pos anchor) where
  abbrev s : ℕ
  s = p.spacing

  abbrev n : ℤ
  n = p.start

  read : to_z w64 (of_z w64 d) ≡ pos f -ℤ pos anchor
  read = to_z-of_z {w = w64} {z = d} (record { sfits = fits }) ∙ is

  -- where something is left over, no wavelength stands there
  pub left_over : (r : Bool) → r ≡ is_whole (to_z w64 (of_z w64 d)) s → not r ≡ true → Err OffPlan ≡ carried_of p f
  left_over r e h = sym (carried_none p plan f (λ w l k. true≢false (sym h ∙ ap not (e ∙ whole w k))))
    where
      whole : (w : ℕ) → frequency_at p w ≡ f → is_whole (to_z w64 (of_z w64 d)) s ≡ true
      whole w k = ap (λ x. is_whole x s) read ∙ eq-eqb (nat_abs (rem_z (pos f -ℤ pos anchor) (pos s))) 0 (ap nat_abs (divides p plan w f k).0)

  none_left : (r : Bool) → r ≡ is_whole (to_z w64 (of_z w64 d)) s → not r ≡ false → rem_z (pos f -ℤ pos anchor) (pos s) ≡ pos 0
  none_left r e h = abs_zero _ (eqb-true (nat_abs (rem_z (pos f -ℤ pos anchor) (pos s))) 0 (ap (λ x. is_whole x s) (sym read) ∙ sym e ∙ not-false r h))

  -- q is the spacings in it
  module _ (bits : f < 2 ^ 32) (q : ℤ) (times : q ≡ quot_z (to_z w64 (of_z w64 d)) (pos s)) where
    exact : q ≡ quot_z (pos f -ℤ pos anchor) (pos s)
    exact = times ∙ ap (λ x. quot_z x (pos s)) read

    far : mag q ≤ 4296898296
    far = rw exact (le_trans (mag_quot (pos f -ℤ pos anchor) s) (from_anchor_size f bits))

    -- less the start, as the machine has it
    abbrev steps : ℤ
    steps = to_z w64 (of_z w64 q) -ℤ to_z w64 (of_z w64 (to_z w32 (of_z w32 n)))

    steps_from : steps ≡ q -ℤ n
    steps_from i = to_z-of_z (sfits_most w64 4296898296 q far tt) i -ℤ start p plan i

    steps_size : mag (q -ℤ n) ≤ 4296898600
    steps_size = le_trans (mag_sum q (neg_ℤ n)) (omega (arith, far, close p plan, mag_neg n))

    pub steps_need : SFits w64 steps
    steps_need = subst (λ x. SFits w64 x) (sym steps_from) (sfits_most w64 4296898600 (q -ℤ n) steps_size tt)

    steps_are : to_z w64 (of_z w64 steps) ≡ quot_z (pos f -ℤ pos anchor) (pos s) -ℤ n
    steps_are = to_z-of_z steps_need ∙ steps_from ∙ ap (λ x. x -ℤ n) exact

    off : ((w : ℕ) → w ≤ highest_wavelength → to_z w64 (of_z w64 steps) ≡ pos w → ⊥) → Err OffPlan ≡ carried_of p f
    off h = sym (carried_none p plan f (λ w l k. h w l (steps_are ∙ (divides p plan w f k).1)))

    -- below zero or above 63 they lead to none
    pub below_plan : lt_z (to_z w64 (of_z w64 steps)) (pos 0) ≡ true → Err OffPlan ≡ carried_of p f
    below_plan h = off (λ w l k. true≢false (sym h ∙ ap (λ x. lt_z x (pos 0)) k ∙ le-ltb w 0 (omega arith)))

    pub above_plan : lt_z (pos 63) (to_z w64 (of_z w64 steps)) ≡ true → Err OffPlan ≡ carried_of p f
    above_plan h = off (λ w l k. true≢false (sym h ∙ ap (λ x. lt_z (pos 63) x) k ∙ le-ltb 63 w l))

    -- else to the wavelength
    pub as_wavelength : lt_z (to_z w64 (of_z w64 steps)) (pos 0) ≡ false → lt_z (pos 63) (to_z w64 (of_z w64 steps)) ≡ false
        → T (non_neg (to_z w64 (of_z w64 steps))) × Fits w8 (nat_abs (to_z w64 (of_z w64 steps)))
    as_wavelength low high =
        let b = within (to_z w64 (of_z w64 steps)) low high in
        (subst (λ x. T (non_neg x)) (sym b.0) tt, record { fits = lt_of_le_of_lt b.1 (lit< tt) })

    pub in_plan : (r : Bool) → r ≡ is_whole (to_z w64 (of_z w64 d)) s → not r ≡ false → lt_z (to_z w64 (of_z w64 steps)) (pos 0) ≡ false → lt_z (pos 63) (to_z w64 (of_z w64 steps)) ≡ false
        → Ok (record { 0 = nat_abs (to_z w64 (of_z w64 steps)) }) ≡ carried_of p f
    in_plan r e h low high =
        let b = within (to_z w64 (of_z w64 steps)) low high in
        sym (carried_is p plan _ f b.1 (divided p plan _ f (none_left r e h) (sym steps_are ∙ b.0)))
