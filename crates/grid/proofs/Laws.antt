-- 02, E3: "no two wavelengths of a plan meet", and "there and back agrees", each for all four spacings together. Assumes nothing.
use Prim.Native.Nat.{ℕ, suc, ◌≤◌, ◌<◌}
use mathlib.Core.Path.{◌≡◌, refl, sym, ap, ◌∙◌}
use mathlib.Core.Logic.{◌↔◌}
use mathlib.Core.Bool.{Bool, true, false, not}
use mathlib.Core.List.{[], ◌∷◌, ◌++◌}
use native.Mathlib.Omega.{arith}
use lib.Dec.{eqb, ltb}
use borrow.Author.Tests.{ltb-false, le-ltb, lt-ltb, eqb-true, eq-eqb, ne_eqb, not-false}
use Rattle.basis.proofs.Bools.{and_left, and_right, and_both}
use Rattle.basis.proofs.Search.{first_passes, first_only, first_end}
use Rattle.refusals.specs.Refusal.{◌if◌, judged, Verdict}
use Rattle.refusals.specs.declared.Refusal.{Refusal}
use Rattle.refusals.specs.declared.Refusal.TheVariants.{NoWavelength, OffPlan}
use Rattle.refusals.proofs.Judged.{none_holds, judged_past}
use Rattle.refusals.proofs.Bytes.{number_byte}
use Rattle.lightpath.specs.declared.Wavelength.{Wavelength}
use Rattle.grid.specs.Grid.{GridPlan, is_spacing, is_start, is_plan, highest_wavelength, frequency_at, wavelength_at}
use Rattle.grid.specs.Tuning.{plan_causes, tuned_causes, tuned_by, tuned_of, tuned_answer, carried_causes, carried_by, carried_of, carried_answer}
use Rattle.grid.specs.declared.Frequency.{Frequency}
use Rattle.grid.proofs.Plans.{one_wavelength}
use Rattle.std.specs.Prelude.{Ok, Err}

-- the first wavelength at a frequency is the only one
found_at : (p : GridPlan) → is_plan p ≡ true → (w f : ℕ) → w ≤ highest_wavelength → frequency_at p w ≡ f → wavelength_at p f ≡ w
unfolding wavelength_at
found_at p e w f l q =
    first_only 64 (λ v. eqb (frequency_at p v) f) w (omega arith) (eq-eqb (frequency_at p w) f q)
    (λ v k. ne_eqb (frequency_at p v) f (λ h. let same = one_wavelength p e v w (h ∙ sym q) in omega arith))

-- one that was found is there
there_at : (p : GridPlan) (f : ℕ) → wavelength_at p f ≤ highest_wavelength → frequency_at p (wavelength_at p f) ≡ f
unfolding wavelength_at
there_at p f l = eqb-true (frequency_at p (wavelength_at p f)) f (first_passes 64 (λ v. eqb (frequency_at p v) f) (omega arith))

-- where none is, none is found
none_at : (p : GridPlan) (f : ℕ) → ((w : ℕ) → w ≤ highest_wavelength → frequency_at p w ≡ f → ⊥) → wavelength_at p f ≡ suc highest_wavelength
unfolding wavelength_at
none_at p f h = first_end 64 (λ v. eqb (frequency_at p v) f) (λ v k. ne_eqb (frequency_at p v) f (h v (omega arith)))

-- what neither 41 nor 42 meets is a plan
pub plan_of_lem : (p : GridPlan) → not (is_spacing p.spacing) ≡ false → not (is_start p.start) ≡ false → is_plan p ≡ true
plan_of_lem p s n =
    and_both (is_spacing p.spacing) (is_start p.start) (not-false (is_spacing p.spacing) s) (not-false (is_start p.start) n)

-- and of a plan the last cause alone decides
module _ (p : GridPlan) (plan : is_plan p ≡ true) (r : Refusal) (h : Bool) where
  last_decides : judged (plan_causes p ++ ((r if h) ∷ [])) ≡ judged ((r if h) ∷ [])
  last_decides =
      judged_past (plan_causes p) ((r if h) ∷ [])
      (rw (and_left (is_spacing p.spacing) (is_start p.start) plan, and_right (is_spacing p.spacing) (is_start p.start) plan))

  last_passes : h ≡ false → judged (plan_causes p ++ ((r if h) ∷ [])) ≡ Ok tt
  last_passes k = last_decides ∙ rw k

  pub last_stops : h ≡ true → judged (plan_causes p ++ ((r if h) ∷ [])) ≡ Err r
  last_stops k = last_decides ∙ rw k

-- 02, E3: "wavelength w, from 0 to 63, stands at the starting n plus w": a plan gives each of its 64 wavelengths a frequency
pub tuned_is : (p : GridPlan) → is_plan p ≡ true → (w : ℕ) → w ≤ highest_wavelength → tuned_of p w ≡ Ok (record { 0 = frequency_at p w })
unfolding tuned_of
tuned_is p e w l = ap (tuned_by p w) (last_passes p e NoWavelength (ltb highest_wavelength w) (le-ltb highest_wavelength w l))

-- 02, E3: a plan gives nothing else a frequency
pub tuned_to : (p : GridPlan) (w : ℕ) (f : Frequency) → tuned_of p w ≡ Ok f → (is_plan p ≡ true) × (w ≤ highest_wavelength) × (frequency_at p w ≡ f.0)
unfolding tuned_of
tuned_to p w f e = go (judged (tuned_causes p w)) refl e
  where
    go : (v : Verdict) → judged (tuned_causes p w) ≡ v → tuned_by p w v ≡ Ok f → (is_plan p ≡ true) × (w ≤ highest_wavelength) × (frequency_at p w ≡ f.0)
    go (Ok tt) h q =
        let n = none_holds (tuned_causes p w) h in
        (plan_of_lem p n.0 n.1.0, ltb-false highest_wavelength w n.1.1.0, cc)
    go (Err r) h q = absurd (omega (arith, (number_byte r).0, ap (λ x. (tuned_answer x).number) q))

-- a frequency of a plan is carried by its wavelength
pub carried_is : (p : GridPlan) → is_plan p ≡ true → (w f : ℕ) → w ≤ highest_wavelength → frequency_at p w ≡ f → carried_of p f ≡ Ok (record { 0 = w })
unfolding carried_of
carried_is p e w f l q =
    let at-w = found_at p e w f l q in
    let within : wavelength_at p f ≤ highest_wavelength = omega arith in
    ap (carried_by p f) (last_passes p e OffPlan (ltb highest_wavelength (wavelength_at p f)) (le-ltb highest_wavelength (wavelength_at p f) within))
    ∙ ap (λ v. Ok (record { 0 = v })) at-w

-- a frequency that no wavelength of it has is carried by none
pub carried_none : (p : GridPlan) → is_plan p ≡ true → (f : ℕ) → ((w : ℕ) → w ≤ highest_wavelength → frequency_at p w ≡ f → ⊥)
    → carried_of p f ≡ Err OffPlan
unfolding carried_of
carried_none p e f h =
    let above : highest_wavelength < wavelength_at p f = omega (arith, none_at p f h) in
    ap (carried_by p f) (last_stops p e OffPlan (ltb highest_wavelength (wavelength_at p f)) (lt-ltb highest_wavelength (wavelength_at p f) above))

-- and nothing else is carried
pub carried_by_lem : (p : GridPlan) (f : ℕ) (w : Wavelength) → carried_of p f ≡ Ok w
    → (is_plan p ≡ true) × (w.0 ≤ highest_wavelength) × (frequency_at p w.0 ≡ f)
unfolding carried_of
carried_by_lem p f w e = go (judged (carried_causes p f)) refl e
  where
    go : (v : Verdict) → judged (carried_causes p f) ≡ v → carried_by p f v ≡ Ok w
        → (is_plan p ≡ true) × (w.0 ≤ highest_wavelength) × (frequency_at p w.0 ≡ f)
    go (Ok tt) h q =
        let n = none_holds (carried_causes p f) h in
        let l = ltb-false highest_wavelength (wavelength_at p f) n.1.1.0 in
        let same : wavelength_at p f ≡ w.0 = cc in
        (plan_of_lem p n.0 n.1.0, rw same at l, rw same at (there_at p f l))
    go (Err r) h q = absurd (omega (arith, (number_byte r).0, ap (λ x. (carried_answer x).number) q))

-- 02, E3: "no two wavelengths of a plan meet", for all four spacings together
pub no_two_meet : (p : GridPlan) (w v : ℕ) (f : Frequency) → tuned_of p w ≡ Ok f → tuned_of p v ≡ Ok f → w ≡ v
no_two_meet p w v f a b =
    let x = tuned_to p w f a in
    let y = tuned_to p v f b in
    one_wavelength p x.0 w v (x.2 ∙ sym y.2)

-- 02, E3: "there and back agrees", for all four spacings together: back after there gives the wavelength
pub back_there : (p : GridPlan) (w : ℕ) (f : Frequency) → tuned_of p w ≡ Ok f → carried_of p f.0 ≡ Ok (record { 0 = w })
back_there p w f e = let x = tuned_to p w f e in carried_is p x.0 w f.0 x.1 x.2

-- 02, E3: "there and back agrees": there after back gives the frequency
pub there_back : (p : GridPlan) (f : ℕ) (w : Wavelength) → carried_of p f ≡ Ok w → tuned_of p w.0 ≡ Ok (record { 0 = f })
there_back p f w e = let x = carried_by_lem p f w e in tuned_is p x.0 w.0 x.1 ∙ ap (λ g. Ok (record { 0 = g })) x.2

-- 02, E3: "43 (no wavelength of the plan there)": back is refused by 43 exactly for the frequencies that no wavelength of the plan has
pub none_there : (p : GridPlan) → is_plan p ≡ true → (f : ℕ)
    → (carried_of p f ≡ Err OffPlan) ↔ ((w : ℕ) → tuned_of p w ≡ Ok (record { 0 = f }) → ⊥)
none_there p e f = (there, back)
  where
    there : carried_of p f ≡ Err OffPlan → (w : ℕ) → tuned_of p w ≡ Ok (record { 0 = f }) → ⊥
    there h w t = absurd (omega (arith, ap (λ x. (carried_answer x).number) (sym (back_there p w (record { 0 = f }) t) ∙ h)))

    back : ((w : ℕ) → tuned_of p w ≡ Ok (record { 0 = f }) → ⊥) → carried_of p f ≡ Err OffPlan
    back h = carried_none p e f (λ w l q. h w (tuned_is p e w l ∙ ap (λ g. Ok (record { 0 = g })) q))
