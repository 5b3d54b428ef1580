-- The digits of some bytes written one after another. Assumes nothing.
use Rattle.std.proofs.Common.{◌≡◌, ℕ, ◌+◌, ◌*◌, ◌/◌, ◌%◌, ◌<◌, ◌≤◌, List, [], ◌∷◌, ◌++◌, length, get_or, drop, refl, add-one, arith, length-append, drop_of_length-le, drop-cons}
use Rattle.buffer.specs.Put.{Put, Room}
use Rattle.buffer.proofs.Put.{put_none, put_put, put_length}
use Rattle.hex_text.specs.Hex.{digit_of, pair_of, hex_of}

-- the two digits of a byte
module _ (l : List ℕ) (at x : ℕ) where
  pub pair_first : (v : ℕ) → v ≡ digit_of (x / 16) → Room l at (pair_of x) → Room l at (v ∷ [])
  unfolding pair_of
  pair_first v e h = record { fits = omega (arith, h.fits) }

  module _ (v : ℕ) (e : v ≡ digit_of (x / 16)) (l1 : List ℕ) (i : ℕ) (p : Put l at (v ∷ []) l1 i) where
    pub pair_second : (w : ℕ) → Room l at (pair_of x) → Room l1 i (w ∷ [])
    unfolding pair_of
    pair_second w h = record { fits = omega (arith, h.fits, p.end, put_length p) }

    pub pair_put : (w : ℕ) → w ≡ digit_of (x % 16) → (l2 : List ℕ) (j : ℕ) → Put l1 i (w ∷ []) l2 j → Put l at (pair_of x) l2 j
    unfolding pair_of
    pair_put w k l2 j q = rw (← e, ← k) (put_put p q)

pub ruleset pairing = (pair_first, pair_second, pair_put)

-- two digits to a byte
pub hex_long : (s : List ℕ) → length (hex_of s) ≡ 2 * length s
unfolding hex_of pair_of
hex_long [] = refl
hex_long (x ∷ s) = omega (arith, hex_long s)

-- the bytes from i on are still to be written: whatever writes them at this position has written the whole
pub record Hexing (bytes l0 : List ℕ) (start : ℕ) (l : List ℕ) (next i : ℕ) : Type 0 where
  pub rest : (l' : List ℕ) (e : ℕ) → Put l next (hex_of (drop i bytes)) l' e → Put l0 start (hex_of bytes) l' e
  pub room : next + length (hex_of (drop i bytes)) ≤ length l
  pub long : length l ≡ length l0

pub hex_none : (bytes l0 : List ℕ) (start : ℕ) → Room l0 start (hex_of bytes) → Hexing bytes l0 start l0 start 0
hex_none bytes l0 start h = record { rest = λ l' e p. p; room = h.fits; long = refl }

module _ (bytes l0 : List ℕ) (start : ℕ) (l : List ℕ) (next i : ℕ) (q : Hexing bytes l0 start l next i) where
  pub hex_kept : length l ≡ length l0
  hex_kept = q.long

  pub hex_all : length bytes ≤ i → Put l0 start (hex_of bytes) l next
  unfolding hex_of
  hex_all h = q.rest l next (rw (drop_of_length-le bytes h) put_none)

  module _ (h : i < length bytes) where
    apart : hex_of (drop i bytes) ≡ pair_of (get_or bytes i 0) ++ hex_of (drop (i + 1) bytes)
    unfolding hex_of
    apart = rw (drop-cons bytes i 0, add-one i)

    pub hex_room : Room l next (pair_of (get_or bytes i 0))
    hex_room = record { fits = omega (arith, q.room, rw apart at q.room, length-append (pair_of (get_or bytes i 0)) (hex_of (drop (i + 1) bytes))) }

    pub hex_next : (l1 : List ℕ) (j : ℕ) → Put l next (pair_of (get_or bytes i 0)) l1 j → Hexing bytes l0 start l1 j (i + 1)
    hex_next l1 j p =
        record {
          rest = λ l' e r. q.rest l' e (rw apart (put_put p r));
          room = omega (arith, rw apart at q.room, length-append (pair_of (get_or bytes i 0)) (hex_of (drop (i + 1) bytes)), p.end, put_length p);
          long = omega (arith, put_length p, q.long);
        }

pub ruleset hexing = (hex_none, hex_kept, hex_all, hex_room, hex_next)
