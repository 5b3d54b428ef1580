-- "Closing takes the circuit off and moves none": exactly that circuit goes, every other place is as it was, and the ring rules are met
-- again. Assumes nothing.
use Prim.Native.Nat.{ℕ, ◌<◌}
use mathlib.Core.Path.{◌≡◌, refl, ◌∙◌}
use mathlib.Core.Logic.{◌≢◌, inl}
use mathlib.Core.Bool.{true}
use mathlib.Core.List.{List, [], ◌∷◌}
use native.Mathlib.Omega.{arith}
use Rattle.basis.specs.Count.{weigh, All}
use Rattle.basis.proofs.Bools.{all_map}
use Rattle.basis.proofs.Weigh.{counted}
use Rattle.limits.specs.Limits.{place_count}
use Rattle.lightpath.specs.declared.Circuit.{Circuit}
use Rattle.slots.specs.Slot.{held, without}
use Rattle.slots.specs.declared.Slot.TheVariants.{Unlit as unlit}
use Rattle.slots.proofs.Contents.{of_number, Parted, parted}
use Rattle.channels.specs.Channels.{Channels, at, live, where_is, circuit_of}
use Rattle.channels.specs.Closing.{closing, closed}
use Rattle.channels.specs.declared.Standing.{Standing}
use Rattle.channels.proofs.Puts.{puts_there}
use Rattle.channels.proofs.Numbers.{found_there, live_placed}
use Rattle.ports.specs.Ports.{limit_of}
use Rattle.rules.proofs.Rules.{Rules, limits_hold}
use Rattle.rules.proofs.Unlit.{unlit_still}
use Rattle.rules.proofs.Fits.{without_fits}
use Rattle.steps.specs.Kept.{Kept}
use Rattle.steps.proofs.Sound.{Gets, Has, Sound, keeps}

-- circuits that stand at one place
abbrev standing : ℕ → List Circuit → List Standing
standing q [] = []
standing q (x ∷ xs) = record { place = q; circuit = x } ∷ standing q xs

-- they weigh what they do
standing_weighs : (w : Circuit → ℕ) (q : ℕ) (xs : List Circuit) → weigh (λ m. w m.circuit) (standing q xs) ≡ weigh w xs
standing_weighs w q [] = refl
standing_weighs w q (x ∷ xs) = omega (arith, standing_weighs w q xs)

-- what holds of each at the place holds of each standing
standing_all : (P : ℕ → Circuit → Type 0) (q : ℕ) (xs : List Circuit) → All (P q) xs → All (λ m. P m.place m.circuit) (standing q xs)
standing_all P q [] h = tt
standing_all P q (x ∷ xs) h = (h.0, standing_all P q xs h.1)

-- every other place is as it was
pub close_there : (t : Channels) (n q : ℕ) → q ≢ where_is t n → at (closed t n) q ≡ at t q
close_there t n q h = puts_there (closing t n) t q (h, tt)

module _ (N : ℕ) (ks : List ℕ) (t : Channels) (rules : Rules N ks t) (n : ℕ) (l : live t n ≡ true) where
  -- the circuit has a place
  placed : where_is t n < place_count
  placed = live_placed t n (limits_hold N ks t rules).long l

  -- which holds it and what is left without it
  split : Parted n (at t (where_is t n))
  split = parted n (at t (where_is t n)) (found_there t n placed)

  -- those left at the place
  abbrev left : List Circuit
  left = held (without n (at t (where_is t n)))

  -- so the change is sound: those left stay
  sound : Sound N t (circuit_of t n ∷ []) [] (closing t n) (standing (where_is t n) left) []
  sound = record {
    apart = (tt, tt);
    within = (rw (limits_hold N ks t rules).long placed, tt);
    fit = (without_fits N (where_is t n) n (at t (where_is t n)) (rules.places (where_is t n) placed), tt);
    took = λ w. omega (arith, split.weighs w, standing_weighs w (where_is t n) left);
    gave = λ w. omega (arith, standing_weighs w (where_is t n) left);
    stayed =
        standing_all (λ q x. Has t q x × Gets (closing t n) q x) (where_is t n) left
        (all_map _ _ (λ x h. ((placed, omega (arith, split.weighs (of_number x.number))), inl (refl, h))) left
        (counted (λ c. c.number) left));
    went = tt;
  }

  -- an unlit place is another, and stays so
  still_unlit : (p : ℕ) → at t p ≡ unlit → at (closed t n) p ≡ unlit
  still_unlit p e = close_there t n p (λ w. let h = rw (← w, e) at (found_there t n placed) in absurd (omega arith)) ∙ e

  -- exactly that circuit goes, and no other moves
  pub closes : Kept N ks t (circuit_of t n ∷ []) [] (closed t n) []
  closes =
      keeps N ks t (circuit_of t n ∷ []) [] (closing t n) (standing (where_is t n) left) [] rules rules.numbers rules.ports sound
      (unlit_still (limit_of ks) t (closed t n) rules.unused (λ p l e. still_unlit p e))
