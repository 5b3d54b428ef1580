-- What the calls answer, from the tests that the code made. Assumes nothing.
use Prim.Native.Nat.{ℕ, suc, ◌+◌, ◌-◌, ◌^◌, ◌≤◌, ◌<◌}
use mathlib.Core.Path.{◌≡◌, sym, ap, subst, ◌∙◌}
use mathlib.Core.Bool.{Bool, true, false, not, cond}
use mathlib.Core.List.{[], ◌∷◌}
use native.Mathlib.Omega.{arith}
use lib.Dec.{ltb, leb→le, le→leb}
use lib.IntN.{ℤ, pos, negsuc, neg_ℤ, nat_abs, ◌+ℤ◌}
use lib.Signed.{◌≤ℤ◌, mag}
use mir.Syntax.{w32}
use mir.Val.{SFits, to_z, of_z}
use mir.Facts.{to_z_pos, to_z-of_z}
use borrow.Author.Tests.{lt-ltb}
use Rattle.refusals.specs.Refusal.{◌if◌, judged, Verdict}
use Rattle.refusals.specs.Answer.{answer_by}
use Rattle.refusals.specs.declared.Refusal.{Refusal}
use Rattle.refusals.specs.declared.Refusal.TheVariants.{NoWavelength, NoSpacing, NoStart, OffPlan}
use Rattle.refusals.proofs.Judged.{none_holds, judged_stop}
use Rattle.grid.specs.Grid.{GridPlan, is_spacing, is_start, is_plan, grid_point, highest_wavelength, wavelength_at}
use Rattle.grid.specs.Tuning.{Tuned, Carried, plan_causes, tuned_of, tuned_by, tuned_answer, tuned_reasons, tuned_values, carried_of, carried_by, carried_answer, carried_reasons, carried_values}
use Rattle.grid.specs.Number.{OnGrid}
use Rattle.basis.proofs.Integers.{sfits_most}
use Rattle.grid.proofs.Plans.{held, above_zero}
use Rattle.grid.proofs.Laws.{plan_of_lem, last_stops, tuned_is}
use Rattle.grid.proofs.Numbers.{tuned_numbers, carried_numbers}
use Rattle.grid.proofs.Machine.{number_size}
use Rattle.std.specs.Prelude.{Ok, Err}

-- a plan judged
module _ (p : GridPlan) where
  pub no_spacing : (r : Bool) → r ≡ is_spacing p.spacing → not r ≡ true → Err NoSpacing ≡ judged (plan_causes p)
  no_spacing r e h = rw (← e, h)

  module _ (fits : mag p.start < 2 ^ 31) (r t : Bool) (e : r ≡ is_spacing p.spacing) (h : not r ≡ false) (q : t ≡ is_start (to_z w32 (of_z w32 p.start))) where
    start : t ≡ is_start p.start
    start = q ∙ ap is_start (to_z-of_z {w = w32} {z = p.start} (record { sfits = fits }))

    pub no_start : not t ≡ true → Err NoStart ≡ judged (plan_causes p)
    no_start k = rw (← e, h, ← start, k)

    pub a_plan : not t ≡ false → (Ok tt) ≡ judged (plan_causes p)
    a_plan k = rw (← e, h, ← start, k)

  pub granted_plan : (v : Verdict) → v ≡ judged (plan_causes p) → v ≡ Ok tt → is_plan p ≡ true
  granted_plan v e g = let n = none_holds (plan_causes p) (sym e ∙ g) in plan_of_lem p n.0 n.1.0

  -- the answer, and in numbers
  pub tuned_said : (w : ℕ) (r : Tuned) → r ≡ tuned_of p w → (r ≡ tuned_of p w) × (tuned_answer r ≡ answer_by (tuned_reasons p w) (tuned_values p w))
  tuned_said w r e = (e, ap (λ x. tuned_answer x) e ∙ tuned_numbers p w)

  pub carried_said : (f : ℕ) (r : Carried) → r ≡ carried_of p f → (r ≡ carried_of p f) × (carried_answer r ≡ answer_by (carried_reasons p f) (carried_values p f))
  carried_said f r e = (e, ap (λ x. carried_answer x) e ∙ carried_numbers p f)

  -- a plan that is refused answers so
  tuned_stop : (w : ℕ) (r : Refusal) → judged (plan_causes p) ≡ Err r → tuned_of p w ≡ Err r
  unfolding tuned_of
  tuned_stop w r e = ap (tuned_by p w) (judged_stop (plan_causes p) ((NoWavelength if ltb highest_wavelength w) ∷ []) r e)

  carried_stop : (f : ℕ) (r : Refusal) → judged (plan_causes p) ≡ Err r → carried_of p f ≡ Err r
  unfolding carried_of
  carried_stop f r e = ap (carried_by p f) (judged_stop (plan_causes p) ((OffPlan if ltb highest_wavelength (wavelength_at p f)) ∷ []) r e)

  pub tuned_refused : (w : ℕ) (v : Verdict) (r : Refusal) → v ≡ judged (plan_causes p) → v ≡ Err r
      → (Err r ≡ tuned_of p w) × (tuned_answer (Err r) ≡ answer_by (tuned_reasons p w) (tuned_values p w))
  tuned_refused w v r e h = tuned_said w (Err r) (sym (tuned_stop w r (sym e ∙ h)))

  pub carried_refused : (f : ℕ) (v : Verdict) (r : Refusal) → v ≡ judged (plan_causes p) → v ≡ Err r
      → (Err r ≡ carried_of p f) × (carried_answer (Err r) ≡ answer_by (carried_reasons p f) (carried_values p f))
  carried_refused f v r e h = carried_said f (Err r) (sym (carried_stop f r (sym e ∙ h)))

-- a wavelength above 63
pub too_high : (p : GridPlan) (w : ℕ) → is_plan p ≡ true → highest_wavelength < w → Err NoWavelength ≡ tuned_of p w
unfolding tuned_of
too_high p w e h = sym (ap (tuned_by p w) (last_stops p e NoWavelength (ltb highest_wavelength w) (lt-ltb highest_wavelength w h)))

-- the grid number of a wavelength
sum_on : (n : ℤ) (w : ℕ) → w ≤ 63 → neg_ℤ (pos 200) ≤ℤ n → n ≤ℤ pos 200 → (neg_ℤ (pos 200) ≤ℤ (n +ℤ pos w)) × ((n +ℤ pos w) ≤ℤ pos 263)
sum_on (pos a) w l low high =
    let b = leb→le a 200 high.le in (record { le = tt }, record { le = le→leb (a + w) 263 (omega arith) })
sum_on (negsuc a) w l low high = go (ltb w (suc a))
  where
    b : a ≤ 199
    b = leb→le a 199 low.le

    go : (o : Bool) → let z = cond o (negsuc (suc a - suc w)) (pos (w - suc a)) in (negsuc 199 ≤ℤ z) × (z ≤ℤ pos 263)
    go true = (record { le = le→leb (suc a - suc w) 199 (omega (arith, b)) }, record { le = tt })
    go false = (record { le = tt }, record { le = le→leb (w - suc a) 263 (omega arith) })

module _ (p : GridPlan) (w : ℕ) (e : is_plan p ≡ true) (l : w ≤ 63) where
  at_start : to_z w32 (of_z w32 p.start) ≡ p.start
  at_start = let h = held p e in to_z-of_z (sfits_most w32 200 p.start (number_size p.start 200 (omega arith) h.low h.high) tt)

  number : to_z w32 (of_z w32 p.start) +ℤ to_z w32 w ≡ p.start +ℤ pos w
  number i = at_start i +ℤ to_z_pos w32 small i
    where
      small : w < 2 ^ 31
      small = omega arith

  on : (neg_ℤ (pos 200) ≤ℤ (p.start +ℤ pos w)) × ((p.start +ℤ pos w) ≤ℤ pos 263)
  on = let h = held p e in sum_on p.start w l h.low h.high

  pub number_fits : SFits w32 (to_z w32 (of_z w32 p.start) +ℤ to_z w32 w)
  number_fits = subst (λ x. SFits w32 x) (sym number) (sfits_most w32 263 (p.start +ℤ pos w) (number_size (p.start +ℤ pos w) 263 (omega arith) on.0 on.1) tt)

  number_is : to_z w32 (of_z w32 (to_z w32 (of_z w32 p.start) +ℤ to_z w32 w)) ≡ p.start +ℤ pos w
  number_is = to_z-of_z number_fits ∙ number

  pub number_on : OnGrid p.spacing (to_z w32 (of_z w32 (to_z w32 (of_z w32 p.start) +ℤ to_z w32 w)))
  number_on = subst (λ x. OnGrid p.spacing x) (sym number_is) (record { narrow = (held p e).narrow; low = on.0; high = on.1 })

  pub tuned_point : (f : ℕ) → pos f ≡ grid_point p.spacing (to_z w32 (of_z w32 (to_z w32 (of_z w32 p.start) +ℤ to_z w32 w)))
      → Ok (record { 0 = f }) ≡ tuned_of p w
  tuned_point f q = ap (λ x. Ok (record { 0 = x })) (ap nat_abs (q ∙ ap (grid_point p.spacing) number_is ∙ sym (above_zero p e w))) ∙ sym (tuned_is p e w l)
