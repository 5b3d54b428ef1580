-- The rounds of a tidying by value. Assumes nothing. What `tidy` promises, and its parts.
use Rattle.std.specs.Prelude.{ℕ, ◌+◌, ◌≤◌, ◌<◌, ◌≡◌}
use Rattle.limits.specs.Limits.{tidy_records}
use Rattle.channels.specs.Change.{puts}
use Rattle.moves.specs.MoveList.{list_of}
use Rattle.moves.specs.Appends.{Appends}
use Rattle.tidying.specs.Round.{Round}
use Rattle.tidying.specs.Tidying.{Tidying, most_rounds}
use Rattle.rounds.specs.Joined.{Joinable}
use Rattle.rounds.specs.declared.Room.{Room}
use Rattle.rounds.specs.declared.Hit.{Hit}
pub use Rattle.rounds.specs.declared.TidiedPlaces.{TidiedPlaces}

-- a tidying by value
abbrev pub tidied_places : Tidying → TidiedPlaces
tidied_places o = record { channels = o.places; rounds = o.rounds; moves = list_of o.moves }

-- what one round more counts on: a pair that can be joined, and room for its two moves
pub record CanGoOn (N : ℕ) (room : Room) (hit : Hit) (r : TidiedPlaces) : Type 0 where
  pub pair : Joinable N room hit.first hit.second
  pub records : r.moves.count + 2 ≤ tidy_records
  pub few : r.rounds < most_rounds

-- r' is r after one round more
pub record After (round : Round) (r r' : TidiedPlaces) : Type 0 where
  pub places : r'.channels ≡ puts round.changes r.channels
  pub rounds : r'.rounds ≡ r.rounds + 1
  pub moves : Appends r.moves round.moves r'.moves
