-- A chunk taken in part by part, a turn of the program's loop, and the end of the input. Assumes nothing.
use Prim.Native.Nat.{ℕ, ◌-◌, ◌≤◌, ◌<◌}
use mathlib.Core.Path.{◌≡◌, refl, sym, ap, ◌∙◌}
use mathlib.Core.List.{List, [], ◌++◌}
use native.Mathlib.Omega.{arith}
use lib.ListN.{length, take, replicate, length-replicate}
use lib.Seq.{take_all}
use Rattle.std.specs.Prelude.{Result, Ok, Err}
use Rattle.basis.proofs.Arrays.{lent_counted}
use Rattle.limits.specs.Limits.{most_circuits}
use Rattle.desk.specs.Desk.{desk_of}
use Rattle.desk.specs.declared.Ran.{Ran}
use Rattle.script.specs.Bytes.{Script}
use Rattle.answer_room.specs.Room.{line_room}
use Rattle.planner_lines.specs.Ran.{CanAnswer, LineRun}
use Rattle.buffer.proofs.Put.{put_length}
use Rattle.ringplan.specs.declared.input.Held.{Held}
use Rattle.ringplan.specs.declared.input.Fed.{Fed}
use Rattle.ringplan.specs.declared.input.Unwritten.{Unwritten}
use Rattle.ringplan.specs.declared.Failure.{Failure}
use Rattle.ringplan.specs.declared.Next.{Next}
use Rattle.ringplan.specs.declared.Next.TheVariants.{Read, Finish, Stop}
use Rattle.ringplan.specs.Plan.{held_room, BetweenReads, script_in, start_held}
use Rattle.ringplan.specs.Input.{nothing}
use Rattle.ringplan.specs.Turn.{Took, Answered, TookIn, Reached, ReadOnce, Finished}
use Rattle.ringplan.proofs.Takings.{takes_then, slice_then, put_more}
use Rattle.ringplan.proofs.ByLines.{ends_none, ends_line}

-- the chunk's first bytes are taken in and answered
pub record Intaking (s : Script) (chunk : List ℕ) (h : Held) (keys0 keys rests0 rests line0 line out0 out : List ℕ) (taken : ℕ) : Type 0 where
  pub answered : Answered s (take taken chunk) (script_in h keys rests line)
  pub within : taken ≤ length chunk
  pub ready : BetweenReads h keys rests line out
  pub same_keys : length keys ≡ length keys0
  pub same_rests : length rests ≡ length rests0
  pub same_line : length line ≡ length line0
  pub same_out : length out ≡ length out0

pub intake_start : (h : Held) (keys rests line out chunk : List ℕ) → BetweenReads h keys rests line out
    → Intaking (script_in h keys rests line) chunk h keys keys rests rests line line out out 0
intake_start h keys rests line out chunk q =
    record { answered = record { text = []; takes = nothing }; within = omega arith; ready = q; same_keys = refl; same_rests = refl; same_line = refl; same_out = refl }

module _ (s : Script) (chunk : List ℕ) (h : Held) (keys0 keys rests0 rests line0 line out0 out : List ℕ) (taken : ℕ)
    (q : Intaking s chunk h keys0 keys rests0 rests line0 line out0 out taken) where
  pub intake_ready : BetweenReads h keys rests line out
  intake_ready = q.ready

  pub intake_within : taken ≤ length chunk
  intake_within = q.within

  pub intake_keys : length keys ≡ length keys0
  intake_keys = q.same_keys

  pub intake_rests : length rests ≡ length rests0
  intake_rests = q.same_rests

  pub intake_line : length line ≡ length line0
  intake_line = q.same_line

  pub intake_out : length out ≡ length out0
  intake_out = q.same_out

  -- a part more
  module _ (keys1 rests1 line1 out1 : List ℕ) (r : Fed) (t : Took (script_in h keys rests line) chunk taken keys1 rests1 line1 out1 r) where
    pub fed_written : r.wrote ≤ length out1
    fed_written = t.written

    pub fed_ready : BetweenReads r.held keys1 rests1 line1 out1
    fed_ready = t.ready

    pub fed_less : taken < length chunk → length chunk - r.taken < length chunk - taken
    fed_less k = omega (arith, t.further k, t.within)

    pub fed_more : taken < length chunk → length keys1 ≡ length keys → length rests1 ≡ length rests → length line1 ≡ length line → length out1 ≡ length out
        → Intaking s chunk r.held keys0 keys1 rests0 rests1 line0 line1 out0 out1 r.taken
    fed_more k a b c d =
        record {
          answered =
              record {
                text = q.answered.text ++ take r.wrote out1;
                takes = rw (← slice_then chunk taken r.taken (omega (arith, t.further k)) t.within) (takes_then q.answered.takes t.takes);
              };
          within = t.within;
          ready = t.ready;
          same_keys = a ∙ q.same_keys;
          same_rests = b ∙ q.same_rests;
          same_line = c ∙ q.same_line;
          same_out = d ∙ q.same_out;
        }

  pub intake_all : length chunk ≤ taken → TookIn s chunk (script_in h keys rests line) (Ok tt)
  intake_all k = record { answered = λ e. rw (take_all taken chunk k) at q.answered }

-- where a write failed, nothing is said
pub unwritten : (s : Script) (chunk : List ℕ) (t : Script) (why : Unwritten) → TookIn s chunk t (Err why)
unwritten s chunk t why = record { answered = λ e. let z : ◌≡◌ {A = ℕ} 0 1 = cc in absurd (omega arith) }

pub ruleset intaking =
    (intake_start, intake_ready, intake_within, intake_keys, intake_rests, intake_line, intake_out, fed_written, fed_ready, fed_less, fed_more, intake_all, unwritten, lent_counted)

-- what a read answered
module _ (s t : Script) where
  pub read_stopped : (why : Failure) → ReadOnce s t (Stop why)
  read_stopped why = record { chunk = []; is = tt }

  pub read_ended : t ≡ s → ReadOnce s t Finish
  read_ended e = record { chunk = []; is = e }

  pub read_taken : (b : Result Unit Unwritten) (chunk : List ℕ) → TookIn s chunk t b → b ≡ Ok tt → ReadOnce s t Read
  read_taken b chunk h e = record { chunk = chunk; is = h.answered e }

pub reached_ready : (h : Held) (keys rests line out : List ℕ) → Reached h keys rests line out → BetweenReads h keys rests line out
reached_ready h keys rests line out q = q.ready

pub ruleset reading = (read_stopped, read_ended, read_taken, reached_ready)

-- before the first byte
pub reached_start : (h : Held) (keys rests line out : List ℕ) → h ≡ start_held → keys ≡ replicate most_circuits 0 → rests ≡ replicate most_circuits 0
    → held_room ≤ length line → line_room ≤ length out → Reached h keys rests line out
reached_start h keys rests line out e k i w r =
    rw (e, k, i) (
    record {
      input = [];
      output = [];
      takes = nothing;
      ready =
          record {
            keeps =
                record {
                  held = λ t w. let z : ◌≡◌ {A = ℕ} 0 1 = cc in absurd (omega arith);
                  blank = λ t. (refl, refl);
                  long_keys = length-replicate {A = ℕ} most_circuits 0;
                  long_rests = length-replicate {A = ℕ} most_circuits 0;
                };
            few = omega arith;
            width = w;
            room = r;
          };
    })

-- after a read: so much more was taken in, or nothing
module _ (h h1 : Held) (keys rests line out keys1 rests1 line1 out1 : List ℕ) (next : Next) (q : Reached h keys rests line out)
    (b : BetweenReads h1 keys1 rests1 line1 out1) (o : ReadOnce (script_in h keys rests line) (script_in h1 keys1 rests1 line1) next) where
  pub reached_more : next ≡ Read → Reached h1 keys1 rests1 line1 out1
  reached_more e =
      let a : Answered (script_in h keys rests line) o.chunk (script_in h1 keys1 rests1 line1) = rw e at o.is in
      record { input = _; output = _; takes = takes_then q.takes a.takes; ready = b }

  pub reached_end : next ≡ Finish → Reached h1 keys1 rests1 line1 out1
  reached_end e =
      let a : script_in h1 keys1 rests1 line1 ≡ script_in h keys rests line = rw e at o.is in
      record { input = q.input; output = q.output; takes = rw a q.takes; ready = b }

pub ruleset turns = (reached_start, reached_more, reached_end)

-- the end of the input
module _ (h : Held) (keys rests line out : List ℕ) (q : Reached h keys rests line out) where
  pub end_within : h.count ≤ length line
  end_within = omega (arith, q.ready.few, q.ready.width)

  pub end_runs : CanAnswer h.desk keys rests out 0
  end_runs = record { keeps = q.ready.keeps; room = q.ready.room }

  pub end_none : h.count ≡ 0 → Finished (script_in h keys rests line) out 0
  end_none e = ends_none (script_in h keys rests line) out (rw e)

  module _ (keys1 rests1 out1 : List ℕ) (r : Ran) (a : LineRun (desk_of h.desk keys rests) (take h.count line) out 0 keys1 rests1 out1 r) where
    pub end_keys : length keys1 ≡ length keys
    end_keys = a.ran.keeps.long_keys ∙ sym q.ready.keeps.long_keys

    pub end_rests : length rests1 ≡ length rests
    end_rests = a.ran.keeps.long_rests ∙ sym q.ready.keeps.long_rests

    pub end_line : (h.count ≡ 0 → ⊥) → Finished (script_in h keys rests line) out1 r.next
    end_line n =
        ends_line (script_in h keys rests line) out1 r.next a.free a.few (λ e. n (lent_counted line h.count end_within ∙ ap length e))
        (omega (arith, a.ran.text.short, q.ready.room, put_length a.ran.text.put))
        (put_more out _ out1 0 r.next a.ran.text.put (omega (arith, a.ran.text.short, q.ready.room)))

pub ruleset ending = (end_within, end_runs, end_none, end_keys, end_rests, end_line, lent_counted)

-- what a caller that writes it out has to show: the lent bytes have as many
module _ (s : Script) (out : List ℕ) (wrote : ℕ) (f : Finished s out wrote) where
  pub finished_within : wrote ≤ length out
  finished_within = f.within

  pub finished_counted : wrote ≡ length (take wrote out)
  finished_counted = lent_counted out wrote f.within

pub ruleset finishing = (finished_within, finished_counted)
