-- What `row_of` and `position` find among rising keys. Assumes nothing.
use Prim.Native.Nat.{ℕ, suc, ◌+◌, ◌^◌, ◌≤◌, ◌<◌}
use mathlib.Core.Path.{◌≡◌, sym, ap, ◌∙◌}
use mathlib.Core.Logic.{◌≢◌}
use mathlib.Core.Bool.{Bool, false}
use mathlib.Core.List.{List}
use native.Mathlib.Decide.{dec_lt}
use native.Mathlib.Omega.{arith}
use lib.Dec.{eqb}
use lib.ListN.{length, get_or, take}
use lib.Seq.{get_or-take, length-take-le}
use borrow.Author.Tests.{eq-eqb, ne_eqb}
use Rattle.basis.specs.Search.{first_place}
use Rattle.basis.proofs.Search.{first_only, first_end}
use Rattle.entries.specs.Entry.{row_key}
use Rattle.entries.specs.Lists.{Rising, rank_of}
use Rattle.entries.proofs.Places.{place_below}
use Rattle.entries.proofs.Rising.{rank_below, rank_from}
use Rattle.rows.specs.Row.{Row, row_in, position_in}

-- the row of a node, from its first key to that of the next
pub row_found : (keys : List ℕ) (node first start end : ℕ) → first ≡ row_key node → start ≡ rank_of first keys → end ≡ rank_of (first + 2 ^ 32) keys
    → ◌≡◌ {A = Row} (record { start = start; end = end }) (row_in keys node)
unfolding row_key
row_found keys node first start end f s e =
    let n : first + 2 ^ 32 ≡ row_key (suc node) = omega arith in
    λ i. record { start = (s ∙ ap (λ k. rank_of k keys) f) i; end = (e ∙ ap (λ k. rank_of k keys) n) i }

module _ (l : List ℕ) (k : ℕ) where
  -- the first that is k, by index
  abbrev is : ℕ → Bool
  is i = eqb (get_or l i 0) k

  -- those before its rank are others
  before : (i : ℕ) → i < rank_of k l → is i ≡ false
  before i h = ne_eqb (get_or l i 0) k (λ e. absurd (omega (arith, rank_below k l i h)))

  -- so it stands there
  stands_there : rank_of k l < length l → get_or l (rank_of k l) 0 ≡ k → rank_of k l ≡ first_place (λ x. eqb x k) l
  stands_there h e = sym (place_below (λ x. eqb x k) 0 l ∙ first_only (length l) is (rank_of k l) h (eq-eqb (get_or l (rank_of k l) 0) k e) before)

  -- or nowhere
  stands_nowhere : Rising l → (rank_of k l < length l → get_or l (rank_of k l) 0 ≢ k) → length l ≡ first_place (λ x. eqb x k) l
  stands_nowhere up n = sym (place_below (λ x. eqb x k) 0 l ∙ first_end (length l) is each)
    where
      each : (i : ℕ) → i < length l → is i ≡ false
      each i h = go (dec_lt i (rank_of k l))
        where
          go : Dec (i < rank_of k l) → is i ≡ false
          go (yes b) = before i b
          go (no b) =
              let other : get_or l (rank_of k l) 0 ≢ k = n (omega arith) in
              ne_eqb (get_or l i 0) k (λ e. other (omega (arith, rank_from k l up (rank_of k l) (omega arith) (omega arith), up.below (rank_of k l) i (omega arith) h)))

module _ (keys : List ℕ) (node number key at : ℕ) (up : Rising keys) (f : key ≡ row_key node + number) (r : at ≡ rank_of key keys) where
  -- the key at its rank is the one looked for
  pub position_hit : at < length keys → get_or keys at 0 ≡ key → at ≡ position_in keys node number
  unfolding position_in
  position_hit l e = r ∙ stands_there keys key (rw r at l) (rw r at e) ∙ rw f

  -- it is another, or there is none
  pub position_miss : (at < length keys → get_or keys at 0 ≡ key → ⊥) → position_in keys node number ≡ length keys
  unfolding position_in
  position_miss n = sym (stands_nowhere keys key up (λ l e. n (rw r l) (rw r e)) ∙ rw f)
