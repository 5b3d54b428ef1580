-- 01: closing a circuit of the ring table. Assumes nothing. What `RingTable::close` and `close_valid` promise.
use Rattle.std.specs.Prelude.{ℕ, not, List, [], ◌∷◌, Ok, Err}
use Rattle.channels.specs.Channels.{live}
use Rattle.channels.specs.Closing.{closed}
use Rattle.refusals.specs.Refusal.{Cause, ◌if◌, judged, Verdict}
use Rattle.refusals.specs.declared.Refusal.TheVariants.{NotLive, BrokenRule}
use Rattle.ring.specs.Table.{RingTable, meets_rules, with_channels}
pub use Rattle.ring.specs.declared.Answered.{Answered}

-- 22, 15
abbrev pub close_causes : RingTable → ℕ → List Cause
close_causes t n = (BrokenRule if not (meets_rules t)) ∷ (NotLive if not (live t.channels n)) ∷ []

abbrev pub closed_by : RingTable → ℕ → Verdict → Answered
closed_by t n (Ok _) = record { table = with_channels t (closed t.channels n); verdict = Ok tt }
closed_by t n (Err r) = record { table = t; verdict = Err r }

-- the circuit of number n off its place, and nothing else changed
unfoldable pub close_of : RingTable → ℕ → Answered
close_of t n = closed_by t n (judged (close_causes t n))
