-- The paper's second claim: "in either ring direction, a directed wavelength with a nonsharing session exists". Assumes nothing.
use Prim.Native.Nat.{ℕ, zero, suc, ◌+◌, ◌*◌, ◌/◌, ◌≤◌, ◌<◌, zero-le}
use mathlib.Core.Path.{◌≡◌, refl}
use mathlib.Core.Bool.{true, false, true≢false}
use mathlib.Core.List.{List, [], ◌∷◌}
use native.Mathlib.Decide.{dec_lt}
use native.Mathlib.Omega.{arith}
use lib.ListN.{length, get_or}
use Rattle.basis.specs.Count.{All}
use Rattle.basis.specs.Search.{first_place}
use Rattle.basis.proofs.Search.{found_passes, none_passes}
use Rattle.lightpath.specs.Place.{place_of}
use Rattle.lightpath.specs.declared.Direction.{Direction}
use Rattle.lightpath.specs.declared.Direction.TheVariants.{Clockwise as clockwise, Counterclockwise as counterclockwise}
use Rattle.lightpath.specs.declared.Circuit.{Circuit}
use Rattle.slots.specs.Slot.{is_unlit, is_alone}
use Rattle.slots.specs.declared.Slot.{Slot}
use Rattle.slots.specs.declared.Slot.TheVariants.{Unlit as unlit, Alone as alone, Shared as shared}
use Rattle.ports.specs.Ports.{wavelengths}
use Rattle.rules.proofs.Counting.{sharing, Full, few_share}

-- the contents of the places of one direction, by wavelength
abbrev lane : Direction → List Slot → List Slot
lane d [] = []
lane clockwise (s ∷ u) = s ∷ lane counterclockwise u
lane counterclockwise (s ∷ u) = lane clockwise u

-- wavelength w of a direction stands at its place
lane_at : (d : Direction) (u : List Slot) (w : ℕ) → get_or (lane d u) w unlit ≡ get_or u (place_of w d) unlit
lane_at clockwise [] w = refl
lane_at counterclockwise [] w = refl
lane_at clockwise (s ∷ u) zero = refl
lane_at clockwise (s ∷ u) (suc w) = let e : 2 * suc w + 0 ≡ suc (2 * w + 1) = omega arith in rw e (lane_at counterclockwise u w)
lane_at counterclockwise (s ∷ u) w = let e : 2 * w + 1 ≡ suc (2 * w + 0) = omega arith in rw e (lane_at clockwise u w)

-- the places of a direction among n
abbrev half : Direction → ℕ → ℕ
half clockwise n = (n + 1) / 2
half counterclockwise n = n / 2

-- half of them, the odd one clockwise
lane_length : (d : Direction) (u : List Slot) → length (lane d u) ≡ half d (length u)
lane_length clockwise [] = refl
lane_length counterclockwise [] = refl
lane_length clockwise (s ∷ u) = omega (arith, lane_length counterclockwise u)
lane_length counterclockwise (s ∷ u) = omega (arith, lane_length clockwise u)

-- so each direction has W of 2 × W
lane_half : (d : Direction) (u : List Slot) (W : ℕ) → length u ≡ 2 * W → length (lane d u) ≡ W
lane_half clockwise u W e = omega (arith, lane_length clockwise u)
lane_half counterclockwise u W e = omega (arith, lane_length counterclockwise u)

-- no more pairs share in one direction than in both
lane_sharing : (d : Direction) (u : List Slot) → length (sharing (lane d u)) ≤ length (sharing u)
lane_sharing clockwise [] = zero-le
lane_sharing counterclockwise [] = zero-le
lane_sharing clockwise (unlit ∷ u) = lane_sharing counterclockwise u
lane_sharing clockwise (alone a ∷ u) = lane_sharing counterclockwise u
lane_sharing clockwise (shared a b ∷ u) = omega (arith, lane_sharing counterclockwise u)
lane_sharing counterclockwise (unlit ∷ u) = lane_sharing clockwise u
lane_sharing counterclockwise (alone a ∷ u) = lane_sharing clockwise u
lane_sharing counterclockwise (shared a b ∷ u) = omega (arith, lane_sharing clockwise u)

-- they are lit where all are
lane_lit : (d : Direction) (u : List Slot) → All (λ s. is_unlit s ≡ false) u → All (λ s. is_unlit s ≡ false) (lane d u)
lane_lit clockwise [] h = tt
lane_lit counterclockwise [] h = tt
lane_lit clockwise (s ∷ u) h = (h.0, lane_lit counterclockwise u h.1)
lane_lit counterclockwise (s ∷ u) h = lane_lit clockwise u h.1

-- lit places of which none has a circuit alone are shared
all_shared : (u : List Slot) → All (λ s. is_unlit s ≡ false) u → All (λ s. is_alone s ≡ false) u → length (sharing u) ≡ length u
all_shared [] l h = refl
all_shared (unlit ∷ u) l h = absurd (true≢false l.0)
all_shared (alone a ∷ u) l h = absurd (true≢false h.0)
all_shared (shared a b ∷ u) l h = omega (arith, all_shared u l.1 h.1)

-- Paper: the second claim, "the number of sharing session pairs is less than the number of directed wavelengths in each ring direction": on
-- such a ring each direction has a nonsharing circuit
pub alone_exists : (ks : List ℕ) (u : List Slot) (c : Circuit) → Full ks u c → (d : Direction)
    → (w : ℕ) × (w < wavelengths ks) × (is_alone (get_or u (place_of w d) unlit) ≡ true)
alone_exists ks u c full d = go (dec_lt (first_place is_alone (lane d u)) (length (lane d u)))
  where
    long : length (lane d u) ≡ wavelengths ks
    long = lane_half d u (wavelengths ks) full.usable

    go : Dec (first_place is_alone (lane d u) < length (lane d u)) → (w : ℕ) × (w < wavelengths ks) × (is_alone (get_or u (place_of w d) unlit) ≡ true)
    go (yes l) =
        (first_place is_alone (lane d u), omega (arith, long), rw (← lane_at d u (first_place is_alone (lane d u))) (found_passes is_alone unlit (lane d u) l))
    go (no h) =
        absurd (omega (
          arith,
          long,
          all_shared (lane d u) (lane_lit d u full.lit) (none_passes is_alone (lane d u) h),
          lane_sharing d u,
          few_share ks u c full,
        ))
