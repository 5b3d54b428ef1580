-- What the list of move records that a host lends holds after a call; 01, "Opening a circuit": after an opening. Assumes nothing.
-- What `RingTable::open` and `tidy` promise.
use Rattle.std.specs.Prelude.{ℕ, List, ◌++◌, ltb, length, drop, replicate}
use Rattle.basis.specs.Choice.{pick}
use Rattle.limits.specs.Limits.{least_records}
use Rattle.moves.specs.declared.Move.{Move}
use Rattle.moves.specs.declared.Moves.{Moves}
use Rattle.moves.specs.Records.{blank, listed}

-- three blank records
abbrev pub blanks : List Move
blanks = replicate 3 blank

-- "Only as many records as there are moves are written, the first of the list; the others keep their values." A list of fewer than `least`
-- records is left as it is
unfoldable pub fronted : ℕ → List Move → List Move → List Move
fronted least ms lent = pick (ltb (length lent) least) lent (ms ++ drop (length ms) lent)

-- after an opening: one that is lent fewer than three is refused, and "lent memory is untouched"
abbrev pub written : List Move → Moves → List Move
written lent a = fronted least_records (listed a) lent
