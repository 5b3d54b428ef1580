-- An input taken in byte by byte runs its lines, one after the other, and prints what they print. Assumes nothing.
use Prim.Native.Nat.{ℕ, ◌≤◌, ◌<◌}
use mathlib.Core.Path.{◌≡◌, refl, sym, ap, ◌∙◌}
use mathlib.Core.Bool.{Bool, true, false}
use mathlib.Core.List.{List, [], ◌∷◌, ◌++◌, append_assoc, append-nil}
use native.Mathlib.Omega.{arith}
use lib.Dec.{eqb, leb}
use lib.ListN.{length, take}
use lib.Seq.{take_all, length-take-le, append_snoc}
use borrow.Author.Tests.{leb-true, leb-false, lt-leb, ne_eqb}
use Rattle.requests.specs.Line.{longest_line, parse_line}
use Rattle.desk.specs.Desk.{Desk, empty_desk}
use Rattle.script.specs.Script.{last_line, lines_after}
use Rattle.script.specs.Bytes.{Script}
use Rattle.script.proofs.ByLines.{take_more}
use Rattle.commands.specs.Command.{longest_command, most_read, command_of}
use Rattle.planner_lines.specs.Line.{Free, plan_line}
use Rattle.ringplan.specs.Plan.{held_room}
use Rattle.ringplan.specs.Input.{start_script, Takes, nothing, ended, more, Runs, none, ran}
use Rattle.ringplan.specs.Turn.{Finished}

-- Law: a line has the outcome of its first 8,193 bytes, so that holding no more loses nothing
plan_cut : (free : Free) (d : Desk) (w : List ℕ) → plan_line free d (take held_room w) ≡ plan_line free d w
unfolding plan_line command_of parse_line
plan_cut free d w = go (leb (length w) held_room) refl
  where
    go : (t : Bool) → leb (length w) held_room ≡ t → plan_line free d (take held_room w) ≡ plan_line free d w
    go true e = rw (take_all held_room w (leb-true (length w) held_room e))
    go false e =
        let h : held_room < length w = leb-false (length w) held_room e in
        let k : length (take held_room w) ≡ held_room = length-take-le held_room w (omega arith) in
        rw (lt-leb (length (take held_room w)) longest_command (omega arith), lt-leb (length w) longest_command (omega arith), lt-leb (length (take held_room w)) longest_line (omega arith), lt-leb (length w) longest_line (omega arith))

-- the bytes taken in from the start are some lines that were run, and the bytes w of a line that has begun
record Led (input output : List ℕ) (t : Script) : Type 0 where
  lines : List (List ℕ)
  w : List ℕ
  runs : Runs empty_desk lines output t.desk
  held : t.held ≡ take held_room w
  rest : (later : List ℕ) → lines_after [] (input ++ later) ≡ lines ++ lines_after w later

-- so it stays with a line end
led_ended : {input output : List ℕ} {t : Script} (free : Free) → length free.content ≤ most_read → Led input output t
    → Led (input ++ (10 ∷ [])) (output ++ (plan_line free t.desk t.held).text) (record { desk = (plan_line free t.desk t.held).desk; held = [] })
unfolding lines_after
led_ended {input} {output} {t} free few q =
    let same : plan_line free t.desk t.held ≡ plan_line free t.desk q.w = rw q.held (plan_cut free t.desk q.w) in
    record {
      lines = q.lines ++ (q.w ∷ []);
      w = [];
      runs = rw same (ran free q.w few q.runs);
      held = refl;
      rest = λ later. rw (append_assoc input (10 ∷ []) later) (q.rest (10 ∷ later)) ∙ sym (append_snoc q.lines q.w (lines_after [] later));
    }

-- and with any other byte
led_more : {input output : List ℕ} {t : Script} (x : ℕ) → (x ≡ 10 → ⊥) → Led input output t
    → Led (input ++ (x ∷ [])) output (record { desk = t.desk; held = take held_room (t.held ++ (x ∷ [])) })
unfolding lines_after
led_more {input} x n q =
    record {
      lines = q.lines;
      w = q.w ++ (x ∷ []);
      runs = q.runs;
      held = rw q.held (take_more held_room q.w (x ∷ []));
      rest = λ later. let k : eqb x 10 ≡ false = ne_eqb x 10 n in rw (append_assoc input (x ∷ []) later) (rw k at (q.rest (x ∷ later)));
    }

-- Law: the bytes taken in from the start are some lines that were run one after the other, and those of a line that has begun
led : {input output : List ℕ} {t : Script} → Takes start_script input output t → Led input output t
unfolding lines_after
led nothing = record { lines = []; w = []; runs = none; held = refl; rest = λ later. refl }
led (ended free few h) = led_ended free few (led h)
led (more x n h) = led_more x n (led h)

-- with the line that has begun, they are all of the input's lines
led_last : {input output : List ℕ} {t : Script} (q : Led input output t) → lines_after [] input ≡ q.lines ++ last_line q.w
unfolding lines_after
led_last {input} q = rw (append-nil input) at (q.rest [])

-- Law: where no line is held at the end of the input, all of its lines were run and their texts printed
pub ends_none : (s : Script) (out : List ℕ) → s.held ≡ [] → Finished s out 0
ends_none s out e =
    record { within = omega arith; desk = s.desk; prints = λ h. let q = led h in go _ _ q.lines q.w (led_last q) q.runs q.held }
  where
    go : (input output : List ℕ) (lines : List (List ℕ)) (w : List ℕ) → lines_after [] input ≡ lines ++ last_line w → Runs empty_desk lines output s.desk
        → s.held ≡ take held_room w → Runs empty_desk (lines_after [] input) (output ++ []) s.desk
    go input output lines [] i r k = rw (append-nil output, i, append-nil lines) r
    go input output lines (x ∷ w) i r k = absurd (omega (arith, ap length e, ap length k))

-- Law: a line that is held at the end of the input is run like any other, and completes what the lines print
pub ends_line : (s : Script) (out : List ℕ) (wrote : ℕ) (free : Free) → length free.content ≤ most_read → (s.held ≡ [] → ⊥) → wrote ≤ length out
    → take wrote out ≡ (plan_line free s.desk s.held).text → Finished s out wrote
ends_line s out wrote free few n b e =
    record {
      within = b;
      desk = (plan_line free s.desk s.held).desk;
      prints = λ h. let q = led h in rw e (go _ _ q.lines q.w (led_last q) q.runs q.held);
    }
  where
    go : (input output : List ℕ) (lines : List (List ℕ)) (w : List ℕ) → lines_after [] input ≡ lines ++ last_line w → Runs empty_desk lines output s.desk
        → s.held ≡ take held_room w
        → Runs empty_desk (lines_after [] input) (output ++ (plan_line free s.desk s.held).text) (plan_line free s.desk s.held).desk
    go input output lines [] i r k = absurd (n k)
    go input output lines (x ∷ w) i r k = rw (i, k, plan_cut free s.desk (x ∷ w)) (ran free (x ∷ w) few r)
