-- 01, "Opening a circuit": a circuit that has moved, and the record that names it, from the places t to the places t'. Assumes nothing.
-- What `RingTable::open`, `decide` and `decide_valid` promise, and `tidy`, `decide_tidy` and `decide_tidy_valid`.
use Rattle.std.specs.Prelude.{ℕ, ◌≡◌, Bool, true, ◌&&◌, not, eqb, ltb}
use Rattle.limits.specs.Limits.{place_count}
use Rattle.lightpath.specs.declared.Circuit.{Circuit}
use Rattle.channels.specs.Channels.{Channels, live, where_is}
use Rattle.moves.specs.declared.Move.{Move}

-- a circuit of the first table has moved when its place in the second is another; one that is closed has none there and has not moved:
-- by its number,
abbrev pub moved_to : Channels → Channels → ℕ → Bool
moved_to t t' n = ltb (where_is t' n) place_count && not (eqb (where_is t n) (where_is t' n))

-- and so by itself
abbrev pub moved : Channels → Channels → Circuit → Bool
moved t t' x = moved_to t t' x.number

-- a record names a circuit of the first table, with its place in the first table and in the second
pub record Names (t t' : Channels) (m : Move) : Type 0 where
  pub was : live t m.number ≡ true
  pub old : m.from.0 ≡ where_is t m.number
  pub now : m.to.0 ≡ where_is t' m.number
