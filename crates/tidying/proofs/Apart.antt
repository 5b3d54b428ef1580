-- Where no pair can be joined, said without the rounds' own test: two circuits alone below the limit can share neither in the direction of a
-- place where one of them stands nor in that of an unlit place below the limit. Assumes nothing.
use Prim.Native.Nat.{ℕ, ◌≤◌, ◌<◌}
use mathlib.Core.Path.{◌≡◌, refl, sym, ◌∙◌}
use mathlib.Core.Bool.{Bool, true, false, ◌&&◌, ◌||◌, true≢false}
use native.Mathlib.Omega.{arith}
use lib.Dec.{ltb}
use lib.ListN.{length}
use borrow.Author.Tests.{lt-ltb}
use Rattle.basis.proofs.Bools.{and_both, or_false}
use Rattle.limits.specs.Limits.{place_count}
use Rattle.lightpath.specs.Place.{direction_of}
use Rattle.lightpath.specs.Circuit.{adjacent, can_share, share_direction}
use Rattle.lightpath.specs.declared.Direction.{Direction}
use Rattle.lightpath.proofs.Share.{can_adjacent, can_other}
use Rattle.slots.specs.Slot.{is_unlit}
use Rattle.slots.specs.declared.Slot.TheVariants.{Unlit as unlit}
use Rattle.channels.specs.Channels.{Channels, at}
use Rattle.channels.specs.declared.Standing.{Standing}
use Rattle.channels.proofs.Nonsharing.{Stands, Lower, stands_pairs}
use Rattle.steps.specs.Steps.{nowhere, stands_right}
use Rattle.steps.proofs.Searches.{lowest_found}
use Rattle.tidying.specs.Round.{unlit_for, joinable, can_round}
use Rattle.tidying.proofs.Tidying.{none_joinable}

module _ (N m : ℕ) (t : Channels) (within : m ≤ length t) (low : m ≤ place_count) (none : can_round N m t ≡ false) (a b : Standing)
    (sa : Stands m t a) (sb : Stands m t b) (l : Lower a b) where
  -- they are no pair that can be joined
  fails : joinable N m t (a, b) ≡ false
  fails = stands_pairs m t within (λ pair. joinable N m t pair ≡ false) (none_joinable N m t none) a b sa sb l

  -- neither stands right, and there is no unlit place in their direction
  neither : (stands_right N a b a ≡ false) × (stands_right N a b b ≡ false) × ((adjacent a.circuit b.circuit && ltb (unlit_for N m t a b) m) ≡ false)
  neither =
      let h = or_false (stands_right N a b a || stands_right N a b b) (adjacent a.circuit b.circuit && ltb (unlit_for N m t a b) m) fails in
      let k = or_false (stands_right N a b a) (stands_right N a b b) h.0 in
      (k.0, k.1, h.1)

  -- one that does not stand right cannot share where it stands
  not_right : (x : Standing) → Stands m t x → stands_right N a b x ≡ false → can_share N (direction_of x.place) a.circuit b.circuit ≡ false
  not_right x s e = rw (lt-ltb x.place nowhere (omega (arith, s.low))) at e

  -- 02, E5: where no pair can be joined, two circuits alone below 2 × W cannot share in the direction of the lower one's place
  pub first_apart : can_share N (direction_of a.place) a.circuit b.circuit ≡ false
  first_apart = not_right a sa neither.0

  -- 02, E5: nor can they in the direction of the higher one's place
  pub second_apart : can_share N (direction_of b.place) a.circuit b.circuit ≡ false
  second_apart = not_right b sb neither.1

  -- 02, E5: nor can they in the direction of an unlit place below 2 × W; none of this speaks of the test by which rounds pass pairs over
  pub unlit_apart : (p : ℕ) → p < m → at t p ≡ unlit → can_share N (direction_of p) a.circuit b.circuit ≡ false
  unlit_apart p i dark = go (can_share N (direction_of p) a.circuit b.circuit) refl
    where
      d : Direction
      d = share_direction N a.circuit b.circuit

      go : (o : Bool) → can_share N (direction_of p) a.circuit b.circuit ≡ o → o ≡ false
      go false e = refl
      go true e =
          absurd (true≢false (sym (and_both (adjacent a.circuit b.circuit) (ltb (unlit_for N m t a b) m) adj (lt-ltb (unlit_for N m t a b) m found))
          ∙ neither.2))
        where
          adj : adjacent a.circuit b.circuit ≡ true
          adj = can_adjacent N (direction_of p) a.circuit b.circuit e

          found : unlit_for N m t a b < m
          found =
              lowest_found is_unlit m t d p i (can_other N (direction_of a.place) (direction_of p) a.circuit b.circuit first_apart e) (rw dark refl)
