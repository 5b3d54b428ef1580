-- The entries of a table: what they weigh, by places and by circuits, and their order. Assumes nothing.
use Prim.Native.Nat.{ℕ, zero, suc, ◌+◌, ◌<◌}
use mathlib.Core.Path.{◌≡◌, refl, ap, ◌∙◌}
use mathlib.Core.Logic.{◌≢◌}
use mathlib.Core.Bool.{true}
use mathlib.Core.List.{List, [], ◌∷◌}
use native.Mathlib.Omega.{arith}
use lib.Dec.{eqb}
use lib.ListN.{length, get_or}
use borrow.Author.Tests.{eq-eqb, ne_eqb}
use Rattle.basis.specs.Choice.{pick}
use Rattle.basis.specs.Count.{weigh, tally, distinct, All}
use Rattle.basis.proofs.Bools.{all_map}
use Rattle.basis.proofs.Weigh.{weigh_append, counted}
use Rattle.limits.specs.Limits.{place_count}
use Rattle.lightpath.specs.declared.Circuit.{Circuit}
use Rattle.slots.specs.Slot.{held}
use Rattle.slots.specs.declared.Slot.{Slot}
use Rattle.slots.specs.declared.Slot.TheVariants.{Unlit as unlit}
use Rattle.channels.specs.Channels.{Channels, at, slots, all_held, circuits, where_is}
use Rattle.channels.specs.declared.Standing.{Standing}
use Rattle.channels.proofs.Places.{slots_length, slots_at}
use Rattle.channels.proofs.Numbers.{stands_at_lem}
use Rattle.roster.specs.Roster.{standing, standings_from, entries}
use Rattle.roster.specs.Listed.{Ordered}
use Rattle.roster.proofs.Filing.{filed_all_weighs, filed_all_ordered, weigh_ones}

-- the circuits of one place, each with it
standing_weighs : (f : Standing → ℕ) (g : Circuit → ℕ) (p : ℕ) (xs : List Circuit) → All (λ x. f (record { place = p; circuit = x }) ≡ g x) xs
    → weigh f (standing p xs) ≡ weigh g xs
standing_weighs f g p [] h = refl
standing_weighs f g p (x ∷ xs) h = omega (arith, standing_weighs f g p xs h.1)

-- a weight of entries that goes by their circuits at each place
from_weighs : (f : Standing → ℕ) (g : Circuit → ℕ) (q : ℕ) (u : List Slot)
    → ((i : ℕ) → i < length u → All (λ x. f (record { place = q + i; circuit = x }) ≡ g x) (held (get_or u i unlit)))
    → weigh f (standings_from q u) ≡ weigh g (all_held u)
from_weighs f g q [] h = refl
from_weighs f g q (s ∷ u) h =
    let z : q + 0 ≡ q = omega arith in
    omega (
      arith,
      weigh_append f (standing q (held s)) (standings_from (suc q) u),
      weigh_append g (held s) (all_held u),
      standing_weighs f g q (held s) (rw z at (h 0 (omega arith))),
      from_weighs f g (suc q) u (λ i l. let e : q + suc i ≡ suc q + i = omega arith in rw e at (h (suc i) (omega arith))),
    )

-- there are as many as circuits
pub standings_length : (q : ℕ) (u : List Slot) → length (standings_from q u) ≡ length (all_held u)
standings_length q u =
    omega (arith, weigh_ones (standings_from q u), weigh_ones (all_held u), from_weighs (λ m. 1) (λ x. 1) q u (λ i l. each (held (get_or u i unlit))))
  where
    each : (xs : List Circuit) → All (λ x. ◌≡◌ {A = ℕ} 1 1) xs
    each [] = tt
    each (x ∷ xs) = (refl, each xs)

-- the entry of a circuit of a table
abbrev pub entered : Channels → Circuit → Standing
entered t x = record { place = where_is t x.number; circuit = x }

module _ (t : Channels) where
  -- the entries weigh what the circuits with their places do
  pub entries_standings : (v : Standing → ℕ) → weigh v (entries t) ≡ weigh v (standings_from 0 (slots t))
  unfolding entries
  entries_standings v = omega (arith, filed_all_weighs v (standings_from 0 (slots t)) [])

  -- 02, E7: the entries of a table stand in the order of their keys
  pub entries_ordered : Ordered (entries t)
  unfolding entries
  entries_ordered = filed_all_ordered (standings_from 0 (slots t)) [] tt

  -- 02, E7: the entries of a table are its circuits, each once: whatever is weighed
  pub entries_circuits : (w : Circuit → ℕ) → weigh (λ m. w m.circuit) (entries t) ≡ weigh w (circuits t)
  entries_circuits w = entries_standings (λ m. w m.circuit) ∙ from_weighs (λ m. w m.circuit) w 0 (slots t) (λ i l. each (held (get_or (slots t) i unlit)))
    where
      each : (xs : List Circuit) → All (λ x. w x ≡ w x) xs
      each [] = tt
      each (x ∷ xs) = (refl, each xs)

  -- so there are as many
  pub entries_count : length (entries t) ≡ length (circuits t)
  entries_count = omega (arith, weigh_ones (entries t), weigh_ones (circuits t), entries_circuits (λ x. 1))

  -- where numbers are distinct, each circuit stands where its number does
  module _ (numbers : distinct (λ c. c.number) (circuits t) ≡ true) (long : length t ≡ place_count) where
    pub entries_weigh : (v : Standing → ℕ) → weigh v (entries t) ≡ weigh (λ x. v (entered t x)) (circuits t)
    entries_weigh v = entries_standings v ∙ from_weighs v (λ x. v (entered t x)) 0 (slots t) at_place
      where
        at_place : (i : ℕ) → i < length (slots t) → All (λ x. v (record { place = 0 + i; circuit = x }) ≡ v (entered t x)) (held (get_or (slots t) i unlit))
        at_place i l =
            rw slots_at
            (all_map (λ x. 0 < tally (λ c. c.number) x.number (held (at t i))) (λ x. v (record { place = 0 + i; circuit = x }) ≡ v (entered t x))
            (λ x h. let e : 0 + i ≡ where_is t x.number = omega (arith, stands_at_lem t numbers x.number i (omega (arith, slots_length t)) h) in rw e)
            (held (at t i)) (counted (λ c. c.number) (held (at t i))))

-- the entries at place p
abbrev pub of_place : (Circuit → ℕ) → ℕ → Standing → ℕ
of_place w p m = pick (eqb m.place p) (w m.circuit) 0

here : (w : Circuit → ℕ) (p : ℕ) (xs : List Circuit) → weigh (of_place w p) (standing p xs) ≡ weigh w xs
here w p [] = refl
here w p (x ∷ xs) = rw (eq-eqb p p refl) (omega (arith, here w p xs))

elsewhere : (w : Circuit → ℕ) (p q : ℕ) → q ≢ p → (xs : List Circuit) → weigh (of_place w p) (standing q xs) ≡ 0
elsewhere w p q n [] = refl
elsewhere w p q n (x ∷ xs) = rw (ne_eqb q p n) (omega (arith, elsewhere w p q n xs))

beyond : (w : Circuit → ℕ) (p q : ℕ) (u : List Slot) → p < q → weigh (of_place w p) (standings_from q u) ≡ 0
beyond w p q [] l = refl
beyond w p q (s ∷ u) l =
    omega (
      arith,
      weigh_append (of_place w p) (standing q (held s)) (standings_from (suc q) u),
      elsewhere w p q (λ e. absurd (omega arith)) (held s),
      beyond w p (suc q) u (omega arith),
    )

from_at : (w : Circuit → ℕ) (q i : ℕ) (u : List Slot) → weigh (of_place w (q + i)) (standings_from q u) ≡ weigh w (held (get_or u i unlit))
from_at w q i [] = refl
from_at w q zero (s ∷ u) =
    let e : q + 0 ≡ q = omega arith in
    rw e (omega (arith, weigh_append (of_place w q) (standing q (held s)) (standings_from (suc q) u), here w q (held s), beyond w q (suc q) u (omega arith)))
from_at w q (suc i) (s ∷ u) =
    let e : q + suc i ≡ suc q + i = omega arith in
    rw e (omega (
      arith,
      weigh_append (of_place w (suc q + i)) (standing q (held s)) (standings_from (suc q) u),
      elsewhere w (suc q + i) q (λ f. absurd (omega arith)) (held s),
      from_at w (suc q) i u,
    ))

-- 02, E7: the entries at a place are what the place holds
pub entries_at : (t : Channels) (w : Circuit → ℕ) (p : ℕ) → weigh (of_place w p) (entries t) ≡ weigh w (held (at t p))
entries_at t w p =
    let z : 0 + p ≡ p = omega arith in
    entries_standings t (of_place w p) ∙ (rw z at (from_at w 0 p (slots t))) ∙ ap (λ s. weigh w (held s)) (slots_at t p)
