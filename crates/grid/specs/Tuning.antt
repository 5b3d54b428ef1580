-- 02, E3: what is answered there and back, and the refusals in their order. Assumes nothing.
-- What `GridPlan::frequency` and `wavelength` promise.
use Rattle.std.specs.Prelude.{ℕ, not, ◌||◌, List, [], ◌∷◌, ◌++◌, eqb, ltb, pos, neg_ℤ, Result, Ok, Err}
use Rattle.std.specs.Int.Signed.{lt_z}
use Rattle.basis.specs.Search.{every_below}
use Rattle.refusals.specs.Refusal.{number_of, Cause, ◌if◌, judged, Verdict}
use Rattle.refusals.specs.Answer.{Answer, refusal, done, Reason, ◌when◌}
use Rattle.lightpath.specs.declared.Wavelength.{Wavelength}
use Rattle.refusals.specs.declared.Refusal.{Refusal}
use Rattle.refusals.specs.declared.Refusal.TheVariants.{NoWavelength, NoSpacing, NoStart, OffPlan}
use Rattle.grid.specs.Grid.{GridPlan, is_spacing, is_start, highest_wavelength, frequency_at, wavelength_at}
use Rattle.grid.specs.declared.Frequency.{Frequency}

-- "41 (spacing), 42 (starting n)"
abbrev pub plan_causes : GridPlan → List Cause
plan_causes p = (NoSpacing if not (is_spacing p.spacing)) ∷ (NoStart if not (is_start p.start)) ∷ []

-- there: "16 for w above 63 follows 42"
abbrev pub tuned_causes : GridPlan → ℕ → List Cause
tuned_causes p w = plan_causes p ++ ((NoWavelength if ltb highest_wavelength w) ∷ [])

-- the frequency at which a wavelength stands, or a refusal
abbrev pub Tuned : Type 0
Tuned = Result Frequency Refusal

abbrev pub tuned_by : GridPlan → ℕ → Verdict → Tuned
tuned_by p w (Ok _) = Ok (record { 0 = frequency_at p w })
tuned_by p w (Err r) = Err r

unfoldable pub tuned_of : GridPlan → ℕ → Tuned
tuned_of p w = tuned_by p w (judged (tuned_causes p w))

-- back: "43 (no wavelength of the plan there)"
abbrev pub carried_causes : GridPlan → ℕ → List Cause
carried_causes p f = plan_causes p ++ ((OffPlan if ltb highest_wavelength (wavelength_at p f)) ∷ [])

-- the wavelength that stands at a frequency, or a refusal
abbrev pub Carried : Type 0
Carried = Result Wavelength Refusal

abbrev pub carried_by : GridPlan → ℕ → Verdict → Carried
carried_by p f (Ok _) = Ok (record { 0 = wavelength_at p f })
carried_by p f (Err r) = Err r

unfoldable pub carried_of : GridPlan → ℕ → Carried
carried_of p f = carried_by p f (judged (carried_causes p f))

-- the numbers and values of the answers
abbrev pub tuned_answer : Tuned → Answer
tuned_answer (Ok f) = done (f.0 ∷ [])
tuned_answer (Err r) = refusal (number_of r)

abbrev pub carried_answer : Carried → Answer
carried_answer (Ok w) = done (w.0 ∷ [])
carried_answer (Err r) = refusal (number_of r)

-- the refusals as numbers
abbrev pub plan_reasons : GridPlan → List Reason
plan_reasons p =
    (41 when not (eqb p.spacing 125 || eqb p.spacing 250 || eqb p.spacing 500 || eqb p.spacing 1000))
    ∷ (42 when (lt_z p.start (neg_ℤ (pos 200)) || lt_z (pos 200) p.start))
    ∷ []

abbrev pub tuned_reasons : GridPlan → ℕ → List Reason
tuned_reasons p w = plan_reasons p ++ ((16 when ltb 63 w) ∷ [])

abbrev pub carried_reasons : GridPlan → ℕ → List Reason
carried_reasons p f = plan_reasons p ++ ((43 when every_below 64 (λ w. not (eqb (frequency_at p w) f))) ∷ [])

-- and the values
abbrev pub tuned_values : GridPlan → ℕ → List ℕ
tuned_values p w = frequency_at p w ∷ []

abbrev pub carried_values : GridPlan → ℕ → List ℕ
carried_values p f = wavelength_at p f ∷ []
