-- The answers in the documents' numbers. Assumes nothing.
use Prim.Native.Nat.{ℕ}
use mathlib.Core.Path.{◌≡◌, refl, ◌∙◌}
use mathlib.Core.Bool.{not, ◌||◌}
use lib.Dec.{eqb, ltb}
use lib.IntN.{ℤ, pos, neg_ℤ}
use lib.Signed.{le_z, lt_z}
use Rattle.basis.specs.Search.{every_below}
use Rattle.basis.proofs.Bools.{not_both}
use Rattle.basis.proofs.Search.{none_found_lem}
use Rattle.basis.proofs.Integers.{not_le_z}
use Rattle.refusals.specs.Answer.{answer_by}
use Rattle.refusals.proofs.Reasons.{in_numbers_lem}
use Rattle.grid.specs.Grid.{GridPlan, is_start, highest_wavelength, frequency_at, wavelength_at}
use Rattle.grid.specs.Tuning.{tuned_causes, tuned_by, tuned_of, tuned_answer, tuned_reasons, tuned_values, carried_causes, carried_by, carried_of, carried_answer, carried_reasons, carried_values}

-- a start that is not within the limits is below them or above
start_outside : (n : ℤ) → not (is_start n) ≡ (lt_z n (neg_ℤ (pos 200)) || lt_z (pos 200) n)
start_outside n = not_both (le_z (neg_ℤ (pos 200)) n) (le_z n (pos 200)) ∙ rw (not_le_z (neg_ℤ (pos 200)) n, not_le_z n (pos 200))

-- no wavelength is found where none stands at the frequency
nowhere : (p : GridPlan) (f : ℕ) → ltb highest_wavelength (wavelength_at p f) ≡ every_below 64 (λ w. not (eqb (frequency_at p w) f))
unfolding wavelength_at
nowhere p f = none_found_lem 64 (λ w. eqb (frequency_at p w) f)

-- the frequency of a wavelength, by the documents' numbers
pub tuned_numbers : (p : GridPlan) (w : ℕ) → tuned_answer (tuned_of p w) ≡ answer_by (tuned_reasons p w) (tuned_values p w)
unfolding tuned_of
tuned_numbers p w =
    in_numbers_lem (λ v. tuned_answer (tuned_by p w v)) (tuned_values p w) refl (λ r. refl) (tuned_causes p w) (tuned_reasons p w)
    (refl, refl, (start_outside p.start, refl, (refl, refl, tt)))

-- and the wavelength of a frequency
pub carried_numbers : (p : GridPlan) (f : ℕ) → carried_answer (carried_of p f) ≡ answer_by (carried_reasons p f) (carried_values p f)
unfolding carried_of
carried_numbers p f =
    in_numbers_lem (λ v. carried_answer (carried_by p f v)) (carried_values p f) refl (λ r. refl) (carried_causes p f) (carried_reasons p f)
    (refl, refl, (start_outside p.start, refl, (nowhere p f, refl, tt)))
