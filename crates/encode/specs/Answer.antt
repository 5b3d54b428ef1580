-- 01, "Saved form" and "Order": what writing answers, and what it leaves in the lent bytes. Assumes nothing.
-- What `write` and `write_valid` promise.
use Rattle.std.specs.Prelude.{ℕ, not, List, [], ◌∷◌, ◌++◌, ltb, length, drop, Result, Ok, Err}
use Rattle.refusals.specs.Refusal.{number_of, Cause, ◌if◌, judged, Verdict}
use Rattle.refusals.specs.Answer.{Answer, refusal, done, Reason, ◌when◌}
use Rattle.refusals.specs.declared.Refusal.{Refusal}
use Rattle.refusals.specs.declared.Refusal.TheVariants.{ShortBuffer, BrokenRule}
use Rattle.ring.specs.Table.{meets_rules}
use Rattle.ring.specs.declared.RingTable.{RingTable}
use Rattle.form.specs.Form.{form_of}

-- with n lent bytes: 22, 21
abbrev pub write_causes : RingTable → ℕ → List Cause
write_causes t n = (BrokenRule if not (meets_rules t)) ∷ (ShortBuffer if ltb n (length (form_of t))) ∷ []

-- the same as numbers: the table breaks a ring rule; the buffer is shorter than the form
abbrev pub write_reasons : RingTable → ℕ → List Reason
write_reasons t n = (22 when not (meets_rules t)) ∷ (21 when ltb n (length (form_of t))) ∷ []

-- writing answers with the form's length
abbrev pub written_by : RingTable → Verdict → Result ℕ Refusal
written_by t (Ok _) = Ok (length (form_of t))
written_by t (Err r) = Err r

unfoldable pub written_of : RingTable → ℕ → Result ℕ Refusal
written_of t n = written_by t (judged (write_causes t n))

-- and leaves the lent bytes after the form; on a refusal all of them
abbrev pub bytes_by : RingTable → List ℕ → Verdict → List ℕ
bytes_by t l (Ok _) = form_of t ++ drop (length (form_of t)) l
bytes_by t l (Err r) = l

unfoldable pub bytes_after : RingTable → List ℕ → List ℕ
bytes_after t l = bytes_by t l (judged (write_causes t (length l)))

-- 01's number and values of each answer: the form's length, or the refusal's number alone
abbrev pub written_answer : Result ℕ Refusal → Answer
written_answer (Ok n) = done (n ∷ [])
written_answer (Err r) = refusal (number_of r)
