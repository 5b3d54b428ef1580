-- 01, "Load and link": the load report of a ring table, into a lent buffer. Assumes nothing. What `report` and `report_valid` promise.
use Rattle.std.specs.Prelude.{ℕ, ◌*◌, not, List, [], ◌∷◌, ◌++◌, ltb, length, drop, Ok, Err}
use Rattle.refusals.specs.Refusal.{Cause, ◌if◌, judged, Verdict}
use Rattle.refusals.specs.Answer.{Reason, ◌when◌}
use Rattle.refusals.specs.declared.Refusal.TheVariants.{ShortBuffer, BrokenRule}
use Rattle.ring.specs.Table.{meets_rules}
use Rattle.ring.specs.declared.RingTable.{RingTable}
use Rattle.load.specs.Load.{loads}

-- a buffer of n bytes is shorter than 2 × N
abbrev pub too_short : RingTable → ℕ → Cause
too_short t n = ShortBuffer if ltb n (2 * t.nodes)

-- 22, 21
unfoldable pub report_of : RingTable → ℕ → Verdict
report_of t n = judged ((BrokenRule if not (meets_rules t)) ∷ too_short t n ∷ [])

-- the same as numbers: the table breaks a ring rule; the buffer is shorter than 2 × N
abbrev pub report_reasons : RingTable → ℕ → List Reason
report_reasons t n = (22 when not (meets_rules t)) ∷ (21 when ltb n (2 * t.nodes)) ∷ []

-- the loads of links 1 to N; bytes after those 2 × N, and on a refusal all, keep their values
abbrev pub filled_by : RingTable → List ℕ → Verdict → List ℕ
filled_by t out (Ok _) = loads t.nodes t.channels ++ drop (2 * t.nodes) out
filled_by t out (Err r) = out

-- the buffer after a report
abbrev pub buffer_after : RingTable → List ℕ → List ℕ
buffer_after t out = filled_by t out (report_of t (length out))
