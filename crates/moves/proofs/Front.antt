-- A lent list after records were written to its front: it is as long as before, its first records are these, and the others are as they
-- were. Assumes nothing.
use Prim.Native.Nat.{ℕ, ◌≤◌, ◌<◌}
use mathlib.Core.Path.{◌≡◌}
use mathlib.Core.List.{List, [], ◌++◌}
use native.Mathlib.Omega.{arith}
use native.Mathlib.Decide.{dec_lt}
use lib.ListN.{length, take, drop, length-append, length-drop}
use lib.Seq.{take-append_seam, drop-append_seam}
use borrow.Author.Tests.{lt-ltb, le-ltb}
use Rattle.moves.specs.declared.Move.{Move}
use Rattle.moves.specs.Lent.{fronted}

module _ (least : ℕ) (ms l : List Move) where
  -- a shorter list is left as it is
  pub fronted_short : length l < least → fronted least ms l ≡ l
  unfolding fronted
  fronted_short h = rw (lt-ltb _ _ h)

  -- any other has the records first, and then its own from there on
  pub fronted_long : least ≤ length l → fronted least ms l ≡ ms ++ drop (length ms) l
  unfolding fronted
  fronted_long h = rw (le-ltb _ _ h)

  -- it is as long as before
  pub length_fronted : length ms ≤ least → length (fronted least ms l) ≡ length l
  length_fronted most = go (dec_lt (length l) least)
    where
      go : Dec (length l < least) → length (fronted least ms l) ≡ length l
      go (yes h) = rw (fronted_short h)
      go (no h) = rw (fronted_long (omega arith)) (simp (length-append, length-drop) (omega arith))

  -- its first records are these
  pub take_fronted : least ≤ length l → take (length ms) (fronted least ms l) ≡ ms
  take_fronted h = rw (fronted_long h) (take-append_seam ms _)

  -- the others are as they were
  pub drop_fronted : drop (length ms) (fronted least ms l) ≡ drop (length ms) l
  drop_fronted = go (dec_lt (length l) least)
    where
      go : Dec (length l < least) → drop (length ms) (fronted least ms l) ≡ drop (length ms) l
      go (yes h) = rw (fronted_short h)
      go (no h) = rw (fronted_long (omega arith)) (drop-append_seam ms _)

-- so no records leave it as it is
pub fronted_none : (least : ℕ) (l : List Move) → fronted least [] l ≡ l
fronted_none least l = drop_fronted least [] l
