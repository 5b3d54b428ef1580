-- 02, E6: step 2's place among the unlit places below the limit. It is found exactly where there is one, it uses the fewest links, clockwise
-- when equal, and is the lowest of its direction; where one of the shorter way was unlit, it uses at most half of the links. Assumes nothing.
use Prim.Native.Nat.{ℕ, ◌/◌, ◌≤◌, ◌<◌}
use mathlib.Core.Path.{◌≡◌, refl, sym, ◌∙◌}
use mathlib.Core.Logic.{◌⊎◌, inl, inr}
use mathlib.Core.Bool.{Bool, true, false}
use native.Mathlib.Decide.{dec_lt}
use native.Mathlib.Omega.{arith}
use borrow.Author.Tests.{lt-ltb, le-ltb}
use Rattle.lightpath.specs.Place.{direction_of, other_way}
use Rattle.lightpath.specs.Circuit.{links_used, shorter_way}
use Rattle.lightpath.specs.declared.Direction.{Direction}
use Rattle.lightpath.specs.declared.Direction.TheVariants.{Clockwise as clockwise}
use Rattle.lightpath.specs.declared.Circuit.{Circuit}
use Rattle.lightpath.proofs.ShorterWay.{either_way, shorter_fewest, clockwise_first, shorter_half}
use Rattle.slots.specs.Slot.{is_unlit}
use Rattle.slots.specs.declared.Slot.TheVariants.{Unlit as unlit}
use Rattle.slots.proofs.Contents.{is_unlit_lem}
use Rattle.channels.specs.Channels.{Channels, at}
use Rattle.steps.specs.Steps.{lowest_in, unlit_preferring, unlit_place}
use Rattle.steps.proofs.Searches.{lowest_passes, lowest_direction, lowest_found, lowest_least}

module _ (N m : ℕ) (t : Channels) (c : Circuit) where
  -- the lowest unlit place of the shorter way, and of the other
  abbrev way : Direction
  way = shorter_way N c

  abbrev near : ℕ
  near = lowest_in is_unlit m t way

  abbrev far : ℕ
  far = lowest_in is_unlit m t (other_way way)

  -- step 2 takes the one, or where there is none the other
  abbrev Chosen : Type 0
  Chosen = ((near < m) × (unlit_place N m t c ≡ near)) ⊎ ((m ≤ near) × (unlit_place N m t c ≡ far))

  chosen : Chosen
  unfolding unlit_place
  chosen = go (dec_lt near m)
    where
      go : Dec (near < m) → ((near < m) × (unlit_preferring m t way ≡ near)) ⊎ ((m ≤ near) × (unlit_preferring m t way ≡ far))
      go (yes l) = inl (l, rw (lt-ltb near m l))
      go (no n) = let l : m ≤ near = omega arith in inr (l, rw (le-ltb near m l))

  -- 02, E6: a place that step 2 finds is unlit
  pub unlit_found : unlit_place N m t c < m → at t (unlit_place N m t c) ≡ unlit
  unlit_found l = go chosen
    where
      found : (d : Direction) → unlit_place N m t c ≡ lowest_in is_unlit m t d → at t (unlit_place N m t c) ≡ unlit
      found d e = rw e (is_unlit_lem (at t (lowest_in is_unlit m t d)) (lowest_passes is_unlit m t d (rw e at l)))

      go : Chosen → at t (unlit_place N m t c) ≡ unlit
      go (inl a) = found way a.1
      go (inr a) = found (other_way way) a.1

  -- beside an unlit place p below the limit
  module _ (p : ℕ) (low : p < m) (dark : is_unlit (at t p) ≡ true) where
    -- step 2 finds a place; it uses no more links than p's does, is clockwise where it uses as many and p is, and is the lowest of its
    -- direction
    pub record Beside : Type 0 where
      pub found : unlit_place N m t c < m
      pub fewest : links_used N (direction_of (unlit_place N m t c)) c ≤ links_used N (direction_of p) c
      pub lowest : direction_of p ≡ direction_of (unlit_place N m t c) → unlit_place N m t c ≤ p
      pub equal : direction_of p ≡ clockwise → links_used N clockwise c ≤ links_used N (direction_of (unlit_place N m t c)) c
          → direction_of (unlit_place N m t c) ≡ clockwise

    -- 02, E6: where a place below the limit is unlit, step 2 finds one. Beside it, the place found uses no more links, is clockwise where it
    -- uses as many and that one is, and is the lower of one direction
    pub beside : Beside
    beside = go chosen (either_way (direction_of p) way)
      where
        taken : (d : Direction) → lowest_in is_unlit m t d < m → unlit_place N m t c ≡ lowest_in is_unlit m t d → direction_of (unlit_place N m t c) ≡ d
        taken d l e = rw e (lowest_direction is_unlit m t d l)

        go : Chosen → (direction_of p ≡ way) ⊎ (direction_of p ≡ other_way way) → Beside
        go (inl a) b =
            let d = taken way a.0 a.1 in
            record {
              found = omega (arith, a.0, a.1);
              fewest = rw d (shorter_fewest N c (direction_of p));
              lowest = λ s. rw a.1 (lowest_least is_unlit m t way p low (s ∙ d) dark);
              equal = λ s h. d ∙ clockwise_first N c (rw d at h);
            }
        go (inr a) (inl s) = absurd (omega (arith, a.0, lowest_found is_unlit m t way p low s dark))
        go (inr a) (inr s) =
            let l = lowest_found is_unlit m t (other_way way) p low s dark in
            let d = taken (other_way way) l a.1 in
            record {
              found = omega (arith, l, a.1);
              fewest = rw (d, s) (omega arith);
              lowest = λ e. rw a.1 (lowest_least is_unlit m t (other_way way) p low s dark);
              equal = λ e h. d ∙ sym s ∙ e;
            }

    -- 02, E6: where a place of the shorter way is unlit, the lightpath uses at most half of the links
    pub unlit_half : direction_of p ≡ shorter_way N c → links_used N (direction_of (unlit_place N m t c)) c ≤ N / 2
    unlit_half s = omega (arith, rw s at beside.fewest, shorter_half N c)

  -- 02, E6: "and goes to the other direction only if none is unlit": where step 2 finds no place, every place below the limit is lit
  pub none_unlit : m ≤ unlit_place N m t c → (p : ℕ) → p < m → is_unlit (at t p) ≡ false
  none_unlit n p l = go (is_unlit (at t p)) refl
    where
      go : (b : Bool) → is_unlit (at t p) ≡ b → b ≡ false
      go true e = absurd (omega (arith, (beside p l e).found))
      go false e = refl
