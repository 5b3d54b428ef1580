-- Demand 3 of an opening on a roster that stands: of the rosters before and after, and of the tables that they are of. Assumes nothing.
-- What `decide_valid`, `decide` and `open` promise.
use Rattle.std.specs.Prelude.{ℕ, ◌≡◌, ◌↔◌, true, List, length}
use Rattle.lightpath.specs.declared.Circuit.{Circuit}
use Rattle.moves.specs.declared.Move.{Move}
use Rattle.refusals.specs.Answer.{some_given}
use Rattle.ring.specs.Opening.{decide_of}
use Rattle.ring.specs.Demand3.{reasons, Demand3, Demand3Lent}
use Rattle.roster.specs.Roster.{table_of, stands}
use Rattle.roster.specs.declared.Roster.{Roster}
use Rattle.roster_calls.specs.Calls.{Opened, opened_table}

-- by value, with a lent list of n records
pub record Demand3Held (r : Roster) (c : Circuit) (n : ℕ) (o : Opened) (ms : List Move) : Type 0 where
  -- "the tables before and after are equal exactly when .."
  pub equal : (o.roster ≡ r) ↔ (some_given (reasons (table_of r) c n) ≡ true)
  -- the roster after it stands, and gives the table that the old opening gives
  pub again : stands o.roster ≡ true
  pub back : table_of o.roster ≡ (decide_of (table_of r) c n).opened.table
  -- and the rest, of the tables
  pub demand : Demand3 (table_of r) c n (opened_table o) ms

-- with a lent list, which is lent' afterwards
pub record Demand3HeldLent (r : Roster) (c : Circuit) (lent : List Move) (o : Opened) (lent' : List Move) : Type 0 where
  pub equal : (o.roster ≡ r) ↔ (some_given (reasons (table_of r) c (length lent)) ≡ true)
  pub again : stands o.roster ≡ true
  pub demand : Demand3Lent (table_of r) c lent (opened_table o) lent'
