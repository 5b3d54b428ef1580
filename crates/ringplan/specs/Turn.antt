-- What each call of the planner's program does with the bytes that were read. What C's read and write did, no contract says. Assumes nothing.
use Rattle.std.specs.Prelude.{ℕ, ◌≤◌, ◌<◌, ◌≡◌, List, [], ◌++◌, Result, Ok, length, take}
use Rattle.std.proofs.Math.Seq.{slice}
use Rattle.desk.specs.Desk.{Desk, empty_desk}
use Rattle.script.specs.Script.{lines_after}
use Rattle.script.specs.Bytes.{Script}
use Rattle.ringplan.specs.declared.input.Held.{Held}
use Rattle.ringplan.specs.declared.input.Fed.{Fed}
use Rattle.ringplan.specs.declared.input.Unwritten.{Unwritten}
use Rattle.ringplan.specs.declared.Next.{Next}
use Rattle.ringplan.specs.declared.Next.TheVariants.{Read, Finish, Stop}
use Rattle.ringplan.specs.Plan.{BetweenReads, script_in}
use Rattle.ringplan.specs.Input.{start_script, Takes, Runs}

-- bytes of the chunk were taken in from a position on, at least one where there is one, and what they print stands at the start of the lent bytes
pub record Took (s : Script) (chunk : List ℕ) (start : ℕ) (keys rests line out : List ℕ) (r : Fed) : Type 0 where
  pub takes : Takes s (slice start r.taken chunk) (take r.wrote out) (script_in r.held keys rests line)
  pub further : start < length chunk → start < r.taken
  pub within : r.taken ≤ length chunk
  pub written : r.wrote ≤ length out
  pub ready : BetweenReads r.held keys rests line out

-- the chunk was taken in, and some bytes, which it prints, were handed to write
pub record Answered (s : Script) (chunk : List ℕ) (t : Script) : Type 0 where
  pub text : List ℕ
  pub takes : Takes s chunk text t

-- where every answer was written, all of the chunk was taken in and answered
pub record TookIn (s : Script) (chunk : List ℕ) (t : Script) (wrote : Result Unit Unwritten) : Type 0 where
  pub answered : wrote ≡ Ok tt → Answered s chunk t

-- some bytes lead here from the start, and the program may go on
pub record Reached (h : Held) (keys rests line out : List ℕ) : Type 0 where
  pub input : List ℕ
  pub output : List ℕ
  pub takes : Takes start_script input output (script_in h keys rests line)
  pub ready : BetweenReads h keys rests line out

-- after a read, by what is next: where the program goes on, the bytes read are taken in and answered, and where the input has ended, nothing has
-- changed
abbrev pub AfterRead : Script → List ℕ → Script → Next → Type 0
AfterRead s chunk t Read = Answered s chunk t
AfterRead s chunk t Finish = t ≡ s
AfterRead s chunk t (Stop why) = Unit {0}

-- one read, of some bytes
pub record ReadOnce (s t : Script) (next : Next) : Type 0 where
  pub chunk : List ℕ
  pub is : AfterRead s chunk t next

-- the end of the input was taken in, and what it prints stands at the start of the lent bytes: after what was printed to the input before it, what
-- was printed is what all lines of the input print, run one after the other
pub record Finished (s : Script) (out : List ℕ) (wrote : ℕ) : Type 0 where
  pub within : wrote ≤ length out
  pub desk : Desk
  pub prints : {input output : List ℕ} → Takes start_script input output s → Runs empty_desk (lines_after [] input) (output ++ take wrote out) desk
