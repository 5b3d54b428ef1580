-- The searches of steps 1 and 3b: what each finds, and what holds where it finds none. The other laws use these and not the
-- definitions. Assumes nothing.
use Prim.Native.Nat.{ℕ, ◌≤◌, ◌<◌}
use mathlib.Core.Path.{◌≡◌, sym, ◌∙◌}
use mathlib.Core.Bool.{Bool, true, false, ◌&&◌, true≢false}
use native.Mathlib.Decide.{dec_lt}
use native.Mathlib.Omega.{arith}
use Rattle.basis.proofs.Bools.{and_left, and_right, and_both}
use Rattle.basis.proofs.Search.{first_passes, before_fails, none_passes_below}
use Rattle.lightpath.specs.Place.{direction_of, same_direction}
use Rattle.lightpath.specs.Circuit.{can_share}
use Rattle.lightpath.specs.declared.Direction.{Direction}
use Rattle.lightpath.specs.declared.Circuit.{Circuit}
use Rattle.lightpath.proofs.Places.{same_direction_lem, direction_same}
use Rattle.slots.specs.declared.Slot.{Slot}
use Rattle.channels.specs.Channels.{Channels, at}
use Rattle.channels.specs.Nonsharing.{standing_at}
use Rattle.channels.specs.declared.Standing.{Standing}
use Rattle.channels.proofs.Nonsharing.{Stands, stands_alone}
use Rattle.steps.specs.Steps.{can_join, join_place, lowest_in}

module _ (N m : ℕ) (t : Channels) (c : Circuit) where
  -- step 1 finds a nonsharing circuit that the new one can share with there
  join_passes : join_place N m t c < m → can_join N c (join_place N m t c) (at t (join_place N m t c)) ≡ true
  join_passes l = first_passes m (λ p. can_join N c p (at t p)) l

  -- 01: the circuit that step 1 joins stands alone, at a place below 2 × W
  pub join_stands : join_place N m t c < m → Stands m t (standing_at t (join_place N m t c))
  join_stands l = let h = join_passes l in stands_alone m t (join_place N m t c) l (search (and_left, and_right))

  -- 01: the new circuit can share with the one that step 1 joins "in that place's direction"
  pub join_can : join_place N m t c < m → can_share N (direction_of (join_place N m t c)) (standing_at t (join_place N m t c)).circuit c ≡ true
  join_can l = let h = join_passes l in search (and_left, and_right)

  -- 01: "The new one joins the first": none that it can share with there stands at a lower place, whichever direction that has
  pub join_least : (a : Standing) → Stands m t a → can_share N (direction_of a.place) a.circuit c ≡ true → join_place N m t c ≤ a.place
  join_least a sa can = go (dec_lt a.place (join_place N m t c))
    where
      go : Dec (a.place < join_place N m t c) → join_place N m t c ≤ a.place
      go (yes l) = absurd (true≢false (sym can ∙ rw sa.there at (before_fails m (λ p. can_join N c p (at t p)) a.place l)))
      go (no n) = omega arith

  -- 01: where step 1 joins none, the new one can share with none where it stands
  pub none_joins : m ≤ join_place N m t c → (a : Standing) → Stands m t a → can_share N (direction_of a.place) a.circuit c ≡ false
  none_joins n a sa = rw sa.there at (none_passes_below m (λ p. can_join N c p (at t p)) n a.place sa.low)

module _ (f : Slot → Bool) (m : ℕ) (t : Channels) (d : Direction) where
  -- the lowest place of a direction whose content passes a test passes it and has that direction
  pub lowest_passes : lowest_in f m t d < m → f (at t (lowest_in f m t d)) ≡ true
  lowest_passes l = and_left _ _ (first_passes m (λ p. f (at t p) && same_direction (direction_of p) d) l)

  pub lowest_direction : lowest_in f m t d < m → direction_of (lowest_in f m t d) ≡ d
  lowest_direction l =
      same_direction_lem (direction_of (lowest_in f m t d)) d
      (and_right (f (at t (lowest_in f m t d))) _ (first_passes m (λ p. f (at t p) && same_direction (direction_of p) d) l))

  -- it is the lowest of these, so that one is found where there is one
  pub lowest_least : (p : ℕ) → p < m → direction_of p ≡ d → f (at t p) ≡ true → lowest_in f m t d ≤ p
  lowest_least p l e h = go (dec_lt p (lowest_in f m t d))
    where
      go : Dec (p < lowest_in f m t d) → lowest_in f m t d ≤ p
      go (yes k) =
          absurd (true≢false (sym (and_both _ _ h (rw e (direction_same d))) ∙ before_fails m (λ p. f (at t p) && same_direction (direction_of p) d) p k))
      go (no n) = omega arith

  pub lowest_found : (p : ℕ) → p < m → direction_of p ≡ d → f (at t p) ≡ true → lowest_in f m t d < m
  lowest_found p l e h = omega (arith, lowest_least p l e h)
