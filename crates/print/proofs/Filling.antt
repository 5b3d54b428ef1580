-- Words printed byte by byte, with numbers put in. Assumes nothing.
use mathlib.Core.Path.{◌≡◌, refl}
use mathlib.Core.List.{List, [], ◌∷◌}
use Prim.Native.Nat.{ℕ, ◌+◌, ◌^◌, ◌≤◌, ◌<◌}
use native.Mathlib.Numerals.{add-one}
use native.Mathlib.Omega.{arith}
use lib.ListN.{length, drop, get_or, drop_of_length-le}
use lib.Seq.{drop-cons}
use borrow.Author.Tests.{ne_eqb}
use Rattle.buffer.specs.Put.{Put, Room, Printed}
use Rattle.text.specs.Decimal.{decimal}
use Rattle.buffer.proofs.Put.{put_none, put_put, put_length}
use Rattle.text.proofs.Back.{decimal_short}
use Rattle.print.specs.Filled.{filled, filled_room}

-- numbers of 32 bits have at most ten digits
pub record Four (a b c d : ℕ) : Type 0 where
  pub first : a < 2 ^ 32
  pub second : b < 2 ^ 32
  pub third : c < 2 ^ 32
  pub fourth : d < 2 ^ 32

-- the words from i on are still to be printed: whatever prints them at this position has printed the whole
pub record Filling (words : List ℕ) (l0 : List ℕ) (start : ℕ) (whole : List ℕ) (l : List ℕ) (next i a b c d : ℕ) : Type 0 where
  pub rest : (l' : List ℕ) (e : ℕ) → Put l next (filled (drop i words) a b c d) l' e → Put l0 start whole l' e
  pub room : next + filled_room (drop i words) ≤ start + filled_room words
  pub space : start + filled_room words ≤ length l0
  pub long : length l ≡ length l0
  pub small : Four a b c d

pub fill_none : (words l0 : List ℕ) (start a b c d : ℕ) → start + filled_room words ≤ length l0
    → a < 2 ^ 32 → b < 2 ^ 32 → c < 2 ^ 32 → d < 2 ^ 32
    → Filling words l0 start (filled words a b c d) l0 start 0 a b c d
fill_none words l0 start a b c d h s t u v =
    record { rest = λ l' e p. p; room = omega arith; space = h; long = refl; small = record { first = s; second = t; third = u; fourth = v } }

module _ (words l0 : List ℕ) (start : ℕ) (whole l : List ℕ) (next i a b c d : ℕ) (q : Filling words l0 start whole l next i a b c d) where
  pub fill_long : length l ≡ length l0
  fill_long = q.long

  pub fill_all : length words ≤ i → Printed (filled_room words) l0 start whole l next
  unfolding filled
  fill_all h = record { put = q.rest l next (rw (drop_of_length-le words h) put_none); short = omega (arith, q.room) }

  module _ (h : i < length words) where
    -- a number
    module _ (e : get_or words i 0 ≡ 35) where
      ten : next + (10 + filled_room (drop (i + 1) words)) ≤ start + filled_room words
      ten = rw (add-one i) (rw (drop-cons words i 0, e) at q.room)

      short : length (decimal a) ≤ 10
      short = decimal_short 9 a (omega (arith, q.small.first))

      pub fill_number_room : Room l next (decimal a)
      fill_number_room = record { fits = omega (arith, ten, q.space, q.long, short) }

      pub fill_number : (l1 : List ℕ) (j : ℕ) → Put l next (decimal a) l1 j → Filling words l0 start whole l1 j (i + 1) b c d d
      unfolding filled
      fill_number l1 j p =
          record {
            rest = λ l' k r. q.rest l' k (rw (drop-cons words i 0, e) (put_put p (rw (add-one i) at r)));
            room = omega (arith, ten, p.end, short);
            space = q.space;
            long = omega (arith, put_length p, q.long);
            small = record { first = q.small.second; second = q.small.third; third = q.small.fourth; fourth = q.small.fourth };
          }

    -- another byte
    module _ (n : get_or words i 0 ≡ 35 → ⊥) where
      one : next + (1 + filled_room (drop (i + 1) words)) ≤ start + filled_room words
      one = rw (add-one i) (rw (drop-cons words i 0, ne_eqb (get_or words i 0) 35 n) at q.room)

      pub fill_byte_room : Room l next (get_or words i 0 ∷ [])
      fill_byte_room = record { fits = omega (arith, one, q.space, q.long) }

      pub fill_byte : (l1 : List ℕ) (j : ℕ) → Put l next (get_or words i 0 ∷ []) l1 j → Filling words l0 start whole l1 j (i + 1) a b c d
      unfolding filled
      fill_byte l1 j p =
          record {
            rest = λ l' k r. q.rest l' k (rw (drop-cons words i 0, ne_eqb (get_or words i 0) 35 n) (put_put p (rw (add-one i) at r)));
            room = omega (arith, one, p.end);
            space = q.space;
            long = omega (arith, put_length p, q.long);
            small = q.small;
          }

pub ruleset filling = (fill_none, fill_long, fill_number_room, fill_number, fill_byte_room, fill_byte, fill_all)
