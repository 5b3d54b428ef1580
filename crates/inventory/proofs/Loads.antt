-- The loads printed one after another. Assumes nothing.
use Prim.Native.Nat.{ℕ, ◌+◌, ◌*◌, ◌≤◌, ◌<◌}
use mathlib.Core.Path.{◌≡◌, refl}
use mathlib.Core.List.{List, [], ◌∷◌, ◌++◌}
use native.Mathlib.Numerals.{add-one}
use native.Mathlib.Omega.{arith}
use lib.ListN.{length, drop, get_or, drop_of_length-le}
use lib.Seq.{drop-cons}
use Rattle.buffer.specs.Put.{Put, Room, Printed}
use Rattle.buffer.proofs.Put.{put_put, put_length}
use Rattle.text.specs.Bytes.{bytes}
use Rattle.print.specs.Answers.{piece}
use Rattle.inventory.specs.Lines.{numbers_line, number_room, numbers_room, load_line, load_room}

-- the loads from i on are still to be printed: whatever prints them at this position has printed the line
pub record Loading (loads l0 : List ℕ) (start : ℕ) (l : List ℕ) (next i : ℕ) : Type 0 where
  pub rest : (l' : List ℕ) (e : ℕ) → Put l next (numbers_line (drop i loads)) l' e → Put l0 start (numbers_line loads) l' e
  pub short : next ≤ start + number_room * i
  pub within : i ≤ length loads
  pub space : start + numbers_room (length loads) ≤ length l0
  pub long : length l ≡ length l0

pub load_none : (loads l : List ℕ) (start : ℕ) → start + numbers_room (length loads) ≤ length l → Loading loads l start l start 0
load_none loads l start h = record { rest = λ l' e q. q; short = omega arith; within = omega arith; space = h; long = refl }

module _ (loads l0 : List ℕ) (start : ℕ) (l : List ℕ) (next i : ℕ) (q : Loading loads l0 start l next i) where
  pub load_kept : length l ≡ length l0
  load_kept = q.long

  pub load_end : Room l next (10 ∷ [])
  load_end = record { fits = omega (arith, q.short, q.within, q.space, q.long) }

  pub load_all : length loads ≤ i → (l1 : List ℕ) (k : ℕ) → Put l next (10 ∷ []) l1 k → Printed (numbers_room (length loads)) l0 start (numbers_line loads) l1 k
  unfolding numbers_line
  load_all h l1 k p =
      record { put = q.rest l1 k (rw (drop_of_length-le loads h) p); short = omega (arith, q.short, q.within, p.end) }

  module _ (h : i < length loads) where
    pub load_room_lem : next + number_room ≤ length l
    load_room_lem = omega (arith, q.short, q.space, q.long)

    apart : numbers_line (drop i loads) ≡ piece (bytes " ") (get_or loads i 0) ++ numbers_line (drop (i + 1) loads)
    unfolding numbers_line
    apart = rw (drop-cons loads i 0, add-one i)

    pub load_next : (l1 : List ℕ) (j : ℕ) → Printed number_room l next (piece (bytes " ") (get_or loads i 0)) l1 j → Loading loads l0 start l1 j (i + 1)
    load_next l1 j p =
        record {
          rest = λ l' e r. q.rest l' e (rw apart (put_put p.put r));
          short = omega (arith, q.short, p.short);
          within = omega arith;
          space = q.space;
          long = omega (arith, put_length p.put, q.long);
        }

pub ruleset loading = (load_none, load_kept, load_end, load_all, load_room_lem, load_next)

-- the word, then the loads
module _ (loads l : List ℕ) (at : ℕ) (h : at + load_room (length loads) ≤ length l) where
  pub load_first : Room l at (bytes "load")
  load_first = record { fits = omega arith }

  module _ (l1 : List ℕ) (i : ℕ) (p : Put l at (bytes "load") l1 i) where
    pub load_second : i + numbers_room (length loads) ≤ length l1
    load_second = omega (arith, p.end, put_length p)

    pub load_put : (l2 : List ℕ) (j : ℕ) → Printed (numbers_room (length loads)) l1 i (numbers_line loads) l2 j → Printed (load_room (length loads)) l at (load_line loads) l2 j
    unfolding load_line
    load_put l2 j q = record { put = put_put p q.put; short = omega (arith, p.end, q.short) }

pub ruleset load = (load_first, load_second, load_put)
