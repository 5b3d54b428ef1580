-- Bytes of a chunk taken in: what is kept from one to the next. Assumes nothing.
use Prim.Native.Nat.{ℕ, ◌+◌, ◌-◌, ◌≤◌, ◌<◌}
use mathlib.Core.Path.{◌≡◌, refl, sym, ◌∙◌}
use mathlib.Core.Bool.{Bool, true}
use mathlib.Core.List.{List, [], ◌∷◌, ◌++◌}
use native.Mathlib.Omega.{arith}
use native.Mathlib.Numerals.{add-one}
use lib.Dec.{leb}
use lib.ListN.{length, take, get_or, set, length-append, length-set}
use lib.Seq.{slice, slice_empty, take-suc-set, take_all, take_at}
use borrow.Author.Tests.{leb-true}
use Rattle.basis.proofs.Arrays.{lent_counted}
use Rattle.buffer.proofs.Put.{put_length}
use Rattle.desk.specs.Desk.{desk_of, Keeps}
use Rattle.std.specs.Prelude.{Option}
use Rattle.roster.specs.declared.Heading.{Heading}
use Rattle.desk.specs.declared.Ran.{Ran}
use Rattle.script.specs.Bytes.{Script}
use Rattle.answer_room.specs.Room.{line_room}
use Rattle.planner_lines.specs.Ran.{CanAnswer, LineRun}
use Rattle.ringplan.specs.declared.input.Held.{Held}
use Rattle.ringplan.specs.Plan.{held_room, BetweenReads, script_in}
use Rattle.ringplan.specs.Input.{Takes, nothing, ended, more}
use Rattle.ringplan.specs.Turn.{Took}
use Rattle.ringplan.proofs.Takings.{slice_more, put_more}

-- the bytes of the chunk from a position up to i are taken in, and what they print stands in the lent bytes up to position at; the keys and the
-- rests hold the desk's table, so many bytes of a line are held, and there is room for an answer
pub record Feeding (s : Script) (chunk : List ℕ) (start : ℕ) (d : Option Heading) (count : ℕ) (keys0 keys rests0 rests line0 line out0 out : List ℕ) (at i : ℕ) : Type 0 where
  pub takes : Takes s (slice start i chunk) (take at out) (script_in (record { desk = d; count = count }) keys rests line)
  pub began : start ≤ i
  pub within : i ≤ length chunk
  pub keeps : Keeps d keys rests
  pub same_keys : length keys ≡ length keys0
  pub same_rests : length rests ≡ length rests0
  pub few : count ≤ held_room
  pub width : held_room ≤ length line0
  pub same_line : length line ≡ length line0
  pub room : at + line_room ≤ length out0
  pub same_out : length out ≡ length out0

pub feed_start : (h : Held) (keys rests line out chunk : List ℕ) (start : ℕ) → BetweenReads h keys rests line out → start ≤ length chunk
    → Feeding (script_in h keys rests line) chunk start h.desk h.count keys keys rests rests line line out out 0 start
feed_start h keys rests line out chunk start s k =
    record {
      takes = rw (slice_empty start chunk) nothing;
      began = omega arith;
      within = k;
      keeps = s.keeps;
      same_keys = refl;
      same_rests = refl;
      few = s.few;
      width = s.width;
      same_line = refl;
      room = s.room;
      same_out = refl;
    }

module _ (s : Script) (chunk : List ℕ) (start : ℕ) (d : Option Heading) (count : ℕ) (keys0 keys rests0 rests line0 line out0 out : List ℕ) (at i : ℕ)
    (q : Feeding s chunk start d count keys0 keys rests0 rests line0 line out0 out at i) where
  pub feed_held : count ≤ length line
  feed_held = omega (arith, q.few, q.width, q.same_line)

  pub feed_keys_kept : length keys ≡ length keys0
  feed_keys_kept = q.same_keys

  pub feed_rests_kept : length rests ≡ length rests0
  feed_rests_kept = q.same_rests

  pub feed_line_kept : length line ≡ length line0
  feed_line_kept = q.same_line

  pub feed_out_kept : length out ≡ length out0
  feed_out_kept = q.same_out

  pub feed_runs : CanAnswer d keys rests out at
  feed_runs = record { keeps = q.keeps; room = omega (arith, q.room, q.same_out) }

  -- the chunk has another byte
  module _ (h : i < length chunk) where
    -- a line end, and the line held was run
    module _ (keys1 rests1 out1 : List ℕ) (r : Ran) (e : get_or chunk i 0 ≡ 10) (a : LineRun (desk_of d keys rests) (take count line) out at keys1 rests1 out1 r) where
      line_ended : Takes s (slice start (i + 1) chunk) (take r.next out1) (script_in (record { desk = r.desk; count = 0 }) keys1 rests1 line)
      line_ended =
          rw (slice_more chunk start i q.began h, e, put_more out _ out1 at r.next a.ran.text.put (omega (arith, a.ran.text.short, q.room, q.same_out)), a.ran.desk)
          (ended a.free a.few q.takes)

      pub feed_answered : r.next ≤ length out1
      feed_answered = omega (arith, a.ran.text.short, q.room, q.same_out, put_length a.ran.text.put)

      pub feed_keys_left : length keys1 ≡ length keys0
      feed_keys_left = omega (arith, a.ran.keeps.long_keys, q.keeps.long_keys, q.same_keys)

      pub feed_rests_left : length rests1 ≡ length rests0
      feed_rests_left = omega (arith, a.ran.keeps.long_rests, q.keeps.long_rests, q.same_rests)

      pub feed_out_left : length out1 ≡ length out0
      feed_out_left = omega (arith, q.same_out, put_length a.ran.text.put)

      -- where there is room for another answer
      pub feed_line : (b : Bool) → b ≡ leb line_room (length out1 - r.next) → b ≡ true
          → Feeding s chunk start r.desk 0 keys0 keys1 rests0 rests1 line0 line out0 out1 r.next (i + 1)
      feed_line b g k =
          record {
            takes = line_ended;
            began = omega (arith, q.began);
            within = omega arith;
            keeps = a.ran.keeps;
            same_keys = feed_keys_left;
            same_rests = feed_rests_left;
            few = omega arith;
            width = q.width;
            same_line = q.same_line;
            room = omega (arith, feed_answered, feed_out_left, leb-true line_room (length out1 - r.next) (sym g ∙ k));
            same_out = feed_out_left;
          }

      -- and where there is none
      pub feed_full : Took s chunk start keys1 rests1 line out1 (record { held = record { desk = r.desk; count = 0 }; taken = i + 1; wrote = r.next })
      feed_full =
          record {
            takes = line_ended;
            further = λ c. omega (arith, q.began);
            within = omega arith;
            written = feed_answered;
            ready =
                record {
                  keeps = a.ran.keeps;
                  few = omega arith;
                  width = omega (arith, q.width, q.same_line);
                  room = omega (arith, q.room, feed_out_left);
                };
          }

    -- another byte, with which the line held is as given
    other : (line1 : List ℕ) (count1 : ℕ) → (get_or chunk i 0 ≡ 10 → ⊥) → take held_room (take count line ++ (get_or chunk i 0 ∷ [])) ≡ take count1 line1
        → length line1 ≡ length line → count1 ≤ held_room
        → Feeding s chunk start d count1 keys0 keys rests0 rests line0 line1 out0 out at (i + 1)
    other line1 count1 n e w f =
        record {
          takes = rw (slice_more chunk start i q.began h, ← e) (more (get_or chunk i 0) n q.takes);
          began = omega (arith, q.began);
          within = omega arith;
          keeps = q.keeps;
          same_keys = q.same_keys;
          same_rests = q.same_rests;
          few = f;
          width = q.width;
          same_line = w ∙ q.same_line;
          room = q.room;
          same_out = q.same_out;
        }

    pub feed_next : count < held_room → count < length line
    feed_next k = omega (arith, q.width, q.same_line)

    pub feed_hold : (get_or chunk i 0 ≡ 10 → ⊥) → count < held_room
        → Feeding s chunk start d (count + 1) keys0 keys rests0 rests line0 (set line count (get_or chunk i 0)) out0 out at (i + 1)
    feed_hold n k =
        let z : take (count + 1) (set line count (get_or chunk i 0)) ≡ take count line ++ (get_or chunk i 0 ∷ []) = rw add-one (take-suc-set line count (get_or chunk i 0) (feed_next k)) in
        let g : length (take count line ++ (get_or chunk i 0 ∷ [])) ≤ held_room = omega (arith, length-append (take count line) (get_or chunk i 0 ∷ []), lent_counted line count feed_held) in
        other (set line count (get_or chunk i 0)) (count + 1) n (take_all held_room (take count line ++ (get_or chunk i 0 ∷ [])) g ∙ sym z) (length-set line count (get_or chunk i 0)) (omega arith)

    -- as many bytes as may be are held already
    pub feed_drop : (get_or chunk i 0 ≡ 10 → ⊥) → held_room ≤ count → Feeding s chunk start d count keys0 keys rests0 rests line0 line out0 out at (i + 1)
    feed_drop n k =
        let e : length (take count line) ≡ held_room = omega (arith, q.few, lent_counted line count feed_held) in
        other line count n (take_at (take count line) (get_or chunk i 0 ∷ []) held_room e) refl q.few

  pub feed_all : length chunk ≤ i → Took s chunk start keys rests line out (record { held = record { desk = d; count = count }; taken = length chunk; wrote = at })
  feed_all h =
      let e : i ≡ length chunk = omega (arith, q.within) in
      record {
        takes = rw e at q.takes;
        further = λ c. c;
        within = omega arith;
        written = omega (arith, q.room, q.same_out);
        ready =
            record {
              keeps = q.keeps;
              few = q.few;
              width = omega (arith, q.width, q.same_line);
              room = omega (arith, q.room, q.same_out);
            };
      }

pub ruleset feeding =
    (feed_start, feed_held, lent_counted, feed_keys_kept, feed_rests_kept, feed_line_kept, feed_out_kept, feed_runs, feed_answered, feed_keys_left, feed_rests_left, feed_out_left, feed_line, feed_full, feed_next, feed_hold, feed_drop, feed_all)
