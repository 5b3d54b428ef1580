-- A loop over the first keys and rests side by side: what it takes in each turn, and how many turns it has. Assumes nothing.
use Prim.Native.Nat.{ℕ, ◌≤◌, ◌<◌}
use mathlib.Core.Path.{◌≡◌, ◌∙◌}
use mathlib.Core.List.{List}
use native.Mathlib.Omega.{arith}
use lib.ListN.{length, get_or, take}
use lib.Seq.{get_or-take, length-take-le}
use denote.Ref.{Bor}
use Rattle.std.proofs.Common.{Option, Some, None, Iter}
use Rattle.std.specs.Iterator.{Yields}
use Rattle.std.specs.Iterator.Adapters.{zip_first, zip_second}
use Rattle.std.specs.Slice.Iter.{iter_rest}
use Rattle.std.specs.declared.iter.Zip.{Zip}
use Rattle.std.proofs.iter.Yields.{fronts}
use Rattle.std.proofs.lemmas.Iterator.{zips}
use Rattle.std.proofs.lemmas.Slice.Zip.{zip_turn, zip_end}

-- the key and the rest of a turn stand at one position
pub record Turn (keys rests : List ℕ) (count i key rest : ℕ) : Type 0 where
  pub within : i < count
  pub key_at : key ≡ get_or keys i 0
  pub rest_at : rest ≡ get_or rests i 0

module _ (keys rests : List ℕ) (count : ℕ) (room : count ≤ length keys) (room' : count ≤ length rests) (xs : List (Bor ℕ × Bor ℕ)) (s t u : Zip (Iter ℕ) (Iter ℕ))
    (r : Option (Bor ℕ × Bor ℕ)) (first : iter_rest (zip_first s) ≡ take count keys) (second : iter_rest (zip_second s) ≡ take count rests)
    (y : Yields (zips fronts fronts) s xs t) where
  pub both_turn : (p : Bor ℕ × Bor ℕ) → r ≡ Some p → zips fronts fronts t r u → Turn keys rests count (length xs) p.0.now p.1.now
  both_turn p e n =
      let turn = zip_turn (take count keys) (take count rests) xs s t u r first second y p e n in
      let within : length xs < count = omega (arith, turn.0, length-take-le count keys room) in
      record {
        within = within;
        key_at = turn.2 0 ∙ get_or-take count keys (length xs) 0 within;
        rest_at = turn.3 0 ∙ get_or-take count rests (length xs) 0 within;
      }

  pub both_end : r ≡ None → zips fronts fronts t r u → length xs ≡ count
  both_end e n =
      omega (
        arith,
        zip_end (take count keys) (take count rests) xs s t u r first second y e n,
        length-take-le count keys room,
        length-take-le count rests room',
      )
