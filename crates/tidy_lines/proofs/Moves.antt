-- The moves printed one after another. Assumes nothing.
use Prim.Native.Nat.{ℕ, ◌+◌, ◌*◌, ◌≤◌, ◌<◌}
use mathlib.Core.Path.{◌≡◌, refl}
use mathlib.Core.List.{List, ◌++◌}
use native.Mathlib.Numerals.{add-one}
use native.Mathlib.Omega.{arith}
use lib.ListN.{length, take, drop, get_or, drop_of_length-le}
use lib.Seq.{drop-cons}
use Rattle.basis.proofs.Arrays.{take_most}
use Rattle.limits.specs.Limits.{tidy_records}
use Rattle.moves.specs.declared.Move.{Move}
use Rattle.moves.specs.Records.{blank}
use Rattle.buffer.specs.Put.{Put, Printed}
use Rattle.buffer.proofs.Put.{put_none, put_put, put_length}
use Rattle.print.specs.Answers.{move_line, move_lines, move_room}
use Rattle.tidy_lines.specs.Lines.{moves_room}

-- the moves of a list from i on are still to be printed: whatever prints them at this position has printed all
pub record Moving (list : List Move) (l0 : List ℕ) (start : ℕ) (l : List ℕ) (next i : ℕ) : Type 0 where
  pub rest : (l' : List ℕ) (e : ℕ) → Put l next (move_lines (drop i list)) l' e → Put l0 start (move_lines list) l' e
  pub short : next ≤ start + move_room * i
  pub within : i ≤ length list
  pub few : length list ≤ tidy_records
  pub space : start + moves_room ≤ length l0
  pub long : length l ≡ length l0

pub move_none : (n : ℕ) (list : List Move) (l : List ℕ) (start : ℕ) → start + moves_room ≤ length l → n ≤ tidy_records → Moving (take n list) l start l start 0
move_none n list l start h k =
    record { rest = λ l' e q. q; short = omega arith; within = omega arith; few = omega (arith, take_most n list); space = h; long = refl }

module _ (list : List Move) (l0 : List ℕ) (start : ℕ) (l : List ℕ) (next i : ℕ) (q : Moving list l0 start l next i) where
  pub move_all : length list ≤ i → Printed moves_room l0 start (move_lines list) l next
  move_all h = record { put = q.rest l next (rw (drop_of_length-le list h) put_none); short = omega (arith, q.short, q.within, q.few) }

  module _ (h : i < length list) where
    pub move_room_left : next + move_room ≤ length l
    move_room_left = omega (arith, q.short, q.few, q.space, q.long)

    apart : move_lines (drop i list) ≡ move_line (get_or list i blank) ++ move_lines (drop (i + 1) list)
    apart = rw (drop-cons list i blank h, add-one i)

    pub move_next : (l1 : List ℕ) (j : ℕ) → Printed move_room l next (move_line (get_or list i blank)) l1 j → Moving list l0 start l1 j (i + 1)
    move_next l1 j p =
        record {
          rest = λ l' e r. q.rest l' e (rw apart (put_put p.put r));
          short = omega (arith, q.short, p.short);
          within = omega arith;
          few = q.few;
          space = q.space;
          long = omega (arith, put_length p.put, q.long);
        }

pub ruleset moving = (move_none, move_all, move_room_left, move_next)
