-- 01, "The ring": directions, wavelengths and places. Assumes nothing. What the calls on wavelengths and places promise, and every
-- promise means by these words.
use Rattle.std.specs.Prelude.{ℕ, ◌+◌, ◌*◌, ◌/◌, ◌%◌, Bool, true, false, eqb}
use Rattle.basis.specs.Choice.{pick}
pub use Rattle.lightpath.specs.declared.Direction.{Direction}
pub use Rattle.lightpath.specs.declared.Direction.TheVariants.{Clockwise as clockwise, Counterclockwise as counterclockwise}

-- A wavelength number counts within one direction; a directed wavelength number counts both.

-- 0 clockwise, 1 counterclockwise
abbrev pub side_of : Direction → ℕ
side_of clockwise = 0
side_of counterclockwise = 1

-- wavelength w is place 2 × w clockwise and place 2 × w + 1 counterclockwise
abbrev pub place_of : ℕ → Direction → ℕ
place_of w d = 2 * w + side_of d

-- and back: the wavelength and the direction of place p
abbrev pub wavelength_of : ℕ → ℕ
wavelength_of p = p / 2

abbrev pub direction_of : ℕ → Direction
direction_of p = pick (eqb (p % 2) 0) clockwise counterclockwise

-- whether two directions are one
abbrev pub same_direction : Direction → Direction → Bool
same_direction clockwise clockwise = true
same_direction clockwise counterclockwise = false
same_direction counterclockwise clockwise = false
same_direction counterclockwise counterclockwise = true

-- the other way round
abbrev pub other_way : Direction → Direction
other_way clockwise = counterclockwise
other_way counterclockwise = clockwise
