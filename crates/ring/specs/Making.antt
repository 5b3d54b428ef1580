-- 01: making a ring table. Assumes nothing. What `RingTable::make` promises.
use Rattle.std.specs.Prelude.{ℕ, List, Ok, Err}
use Rattle.refusals.specs.Refusal.{judged, Verdict}
use Rattle.causes.specs.Causes.{make_causes}
use Rattle.ring.specs.Table.{blank_table, fresh_table}
pub use Rattle.ring.specs.declared.Answered.{Answered}

abbrev pub made_by : ℕ → List ℕ → Verdict → Answered
made_by N ks (Ok _) = record { table = fresh_table N ks; verdict = Ok tt }
made_by N ks (Err r) = record { table = blank_table; verdict = Err r }

-- a refused making hands back the blank table
unfoldable pub make_of : ℕ → List ℕ → Answered
make_of N ks = made_by N ks (judged (make_causes N ks))
