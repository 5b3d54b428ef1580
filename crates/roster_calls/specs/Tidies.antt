-- 02, E5, of a tidying on a roster that stands: of the roster after it, and of the tables that they are of. Assumes nothing.
-- What `decide_tidy_valid`, `decide_tidy` and `tidy` promise.
use Rattle.std.specs.Prelude.{ℕ, ◌≡◌, true, List}
use Rattle.moves.specs.declared.Move.{Move}
use Rattle.ring.specs.Tidying.{decide_tidy_of}
use Rattle.ring.specs.Tidies.{TidiesBy, TidiesLent}
use Rattle.roster.specs.Roster.{table_of, stands}
use Rattle.roster.specs.declared.Roster.{Roster}
use Rattle.roster_calls.specs.Calls.{Tidied, tidied_table}

-- by value, with a lent list of n records
pub record TidiesHeld (r : Roster) (n : ℕ) (o : Tidied) (ms : List Move) : Type 0 where
  -- the roster after it stands, and gives the table that the old tidying gives
  pub again : stands o.roster ≡ true
  pub back : table_of o.roster ≡ (decide_tidy_of (table_of r) n).tidied.table
  -- and the rest, of the tables
  pub tidies : TidiesBy (table_of r) n (tidied_table o) ms

-- with a lent list, which is lent' afterwards
pub record TidiesHeldLent (r : Roster) (lent : List Move) (o : Tidied) (lent' : List Move) : Type 0 where
  pub again : stands o.roster ≡ true
  pub tidies : TidiesLent (table_of r) lent (tidied_table o) lent'
