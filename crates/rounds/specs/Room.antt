-- The unlit places that a round can use. Assumes nothing. Serves proofs inside only.
use Rattle.std.specs.Prelude.{ℕ, Bool, ◌&&◌, ◌||◌, leb, ltb}
use Rattle.lightpath.specs.declared.Direction.TheVariants.{Clockwise as clockwise, Counterclockwise as counterclockwise}
use Rattle.lightpath.specs.declared.Direction.{Direction}
use Rattle.slots.specs.Slot.{is_unlit}
use Rattle.channels.specs.Channels.{Channels}
use Rattle.steps.specs.Steps.{lowest_in}
pub use Rattle.rounds.specs.declared.Room.{Room}

-- the lowest unlit place below m of each direction, or m
abbrev pub room_of : ℕ → Channels → Room
room_of m t = record { clockwise = lowest_in is_unlit m t clockwise; counterclockwise = lowest_in is_unlit m t counterclockwise }

-- that of one direction
abbrev pub lowest_of : Room → Direction → ℕ
lowest_of r clockwise = r.clockwise
lowest_of r counterclockwise = r.counterclockwise

-- a direction has an unlit place in r' that had none in r
abbrev pub gains : ℕ → Room → Room → Bool
gains m r r' = (leb m r.clockwise && ltb r'.clockwise m) || (leb m r.counterclockwise && ltb r'.counterclockwise m)
