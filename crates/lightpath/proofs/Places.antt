-- Places: a wavelength and a direction name one place, and a place names them. Assumes nothing.
use Prim.Native.Nat.{ℕ, ◌+◌, ◌*◌, ◌%◌}
use mathlib.Core.Path.{◌≡◌, refl}
use mathlib.Core.Bool.{Bool, true, false}
use native.Mathlib.Omega.{arith}
use lib.Dec.{eqb}
use borrow.Author.Tests.{eqb-true, eqb-false, eq-eqb, ne_eqb}
use Rattle.basis.specs.Choice.{pick}
use Rattle.lightpath.specs.Place.{Direction, clockwise, counterclockwise, place_of, wavelength_of, direction_of, same_direction}

-- directions that pass for the same are equal
pub same_direction_lem : (d e : Direction) → same_direction d e ≡ true → d ≡ e
same_direction_lem clockwise clockwise h = refl
same_direction_lem clockwise counterclockwise h = cc
same_direction_lem counterclockwise clockwise h = cc
same_direction_lem counterclockwise counterclockwise h = refl

-- a direction passes for itself
pub direction_same : (d : Direction) → same_direction d d ≡ true
direction_same clockwise = refl
direction_same counterclockwise = refl

-- the place of a wavelength clockwise, and counterclockwise
pub place_clockwise : (w : ℕ) (d : Direction) → d ≡ clockwise → 2 * w ≡ place_of w d
place_clockwise w d e = rw e (omega arith)

pub place_counterclockwise : (w : ℕ) (d : Direction) → d ≡ counterclockwise → 2 * w + 1 ≡ place_of w d
place_counterclockwise w d e = rw e

-- the place of a wavelength in a direction has that wavelength
pub wavelength_place : (w : ℕ) (d : Direction) → wavelength_of (place_of w d) ≡ w
wavelength_place w clockwise = omega arith
wavelength_place w counterclockwise = omega arith

-- and that direction
pub direction_place : (w : ℕ) (d : Direction) → direction_of (place_of w d) ≡ d
direction_place w clockwise = rw (eq-eqb ((2 * w + 0) % 2) 0 (omega arith))
direction_place w counterclockwise = rw (ne_eqb ((2 * w + 1) % 2) 0 (omega arith))

-- a place is the place of its wavelength in its direction
pub place_back : (p : ℕ) → place_of (wavelength_of p) (direction_of p) ≡ p
place_back p = go (eqb (p % 2) 0) refl
  where
    go : (o : Bool) → eqb (p % 2) 0 ≡ o → place_of (wavelength_of p) (pick o clockwise counterclockwise) ≡ p
    go true e = omega (arith, eqb-true)
    go false e = omega (arith, eqb-false)
