-- The candidates in an array, and the search for their first adjacent pair: how far it is, and each step of its loops. Each law takes
-- a callee's answer and the branch's test as they stand in the record of a need, so that `search (rules, seek)` finds them. Assumes nothing.
use Prim.Native.Nat.{ℕ, ◌+◌, ◌-◌, ◌≤◌, ◌<◌}
use mathlib.Core.Path.{◌≡◌, sym, ap, ◌∙◌}
use mathlib.Core.Bool.{Bool, true, false}
use mathlib.Core.List.{List, [], ◌∷◌, ◌++◌}
use native.Mathlib.Nat.{add-zero}
use native.Mathlib.Numerals.{add-one}
use native.Mathlib.Omega.{arith}
use lib.ListN.{length, take, drop, get_or, length-drop, drop_of_length-le}
use lib.Seq.{drop-cons, drop-drop, get_or-drop, get_or-take}
use Rattle.basis.specs.Search.{first_place, pairs_with, pairs_of}
use Rattle.basis.proofs.Search.{any_default}
use Rattle.lightpath.specs.declared.Circuit.{Circuit}
use Rattle.channels.specs.Channels.{Channels}
use Rattle.channels.specs.Nonsharing.{adjacent_pair}
use Rattle.channels.specs.declared.Standing.{Standing}
use Rattle.steps.specs.Steps.{newcomer, candidates, passed, passed_in}
use Rattle.pairs.specs.Pairs.{Pair, blank_standing, first_pair, pair_of}

-- k elements have been passed, none of which is a hit, and these are left
pub record Left {A : Type 0} (f : A → Bool) (l : List A) (k : ℕ) (rest : List A) : Type 0 where
  pub suffix : drop k l ≡ rest
  pub none : first_place f l ≡ k + first_place f rest

module _ {A : Type 0} {f : A → Bool} {l : List A} where
  -- one that is no hit is passed
  pub left_miss : {k : ℕ} {x : A} {rest : List A} → Left f l k (x ∷ rest) → f x ≡ false → Left f l (k + 1) rest
  left_miss {k} h e = record { suffix = sym (drop-drop 1 k l) ∙ rw h.suffix; none = h.none ∙ rw e (omega arith) }

  -- one that is a hit is the first
  pub left_hit : {k : ℕ} {x : A} {rest : List A} → Left f l k (x ∷ rest) → f x ≡ true → first_place f l ≡ k
  left_hit h e = h.none ∙ rw e (omega arith)

  -- the next one is that at position k
  pub left_at : {k : ℕ} {x : A} {rest : List A} (d : A) → Left f l k (x ∷ rest) → get_or l k d ≡ x
  left_at {k} d h = sym (get_or-drop k l 0 d ∙ rw add-zero) ∙ rw h.suffix

  -- where none is left there is no hit
  pub left_end : {k : ℕ} → Left f l k [] → length l ≤ first_place f l
  left_end {k} h = omega (arith, h.none, length-drop k l, ap length h.suffix)

-- the search is at the row of position i, with so many looks behind it
abbrev pub AtRow : List Standing → ℕ → ℕ → Type 0
AtRow l i looks = Left adjacent_pair (pairs_of l) looks (pairs_of (drop i l))

-- it is at the pair of position i and the one so many after the next
abbrev pub AtPair : List Standing → ℕ → ℕ → ℕ → Type 0
AtPair l i j looks = Left adjacent_pair (pairs_of l) looks (pairs_with (get_or l i blank_standing) (drop j (drop (i + 1) l)) ++ pairs_of (drop (i + 1) l))

-- from a position on there are its element and those from the next on
next : (l : List Standing) (i : ℕ) → i < length l → drop i l ≡ get_or l i blank_standing ∷ drop (i + 1) l
next l i h = drop-cons l i blank_standing h ∙ rw add-one

-- the elements after a position, one by one
later : (l : List Standing) (i j : ℕ) → j < length l - (i + 1)
    → get_or (take (length l - (i + 1)) (drop (i + 1) l)) j blank_standing ≡ get_or (drop (i + 1) l) j blank_standing
later l i j h = get_or-take (length l - (i + 1)) (drop (i + 1) l) j blank_standing h

module _ (l : List Standing) where
  -- after its last pair comes the next row
  pub row_leave : (i j k : ℕ) → AtPair l i j k → length l - (i + 1) ≤ j → AtRow l (i + 1) k
  row_leave i j k q h = rw (drop_of_length-le (drop (i + 1) l) {i = j} (omega (arith, length-drop (i + 1) l))) at q

  module _ (i j k : ℕ) (r : Bool) (q : AtPair l i j k) (h : j < length l - (i + 1))
      (e : r ≡ adjacent_pair (get_or l i blank_standing, get_or (take (length l - (i + 1)) (drop (i + 1) l)) j blank_standing)) where
    left : Left adjacent_pair (pairs_of l) k
        ((get_or l i blank_standing, get_or (drop (i + 1) l) j blank_standing)
        ∷ (pairs_with (get_or l i blank_standing) (drop (j + 1) (drop (i + 1) l)) ++ pairs_of (drop (i + 1) l)))
    left = rw (next (drop (i + 1) l) j (omega (arith, length-drop (i + 1) l))) at q

    -- a pair that is not adjacent is one look more
    pub pair_miss : r ≡ false → AtPair l i (j + 1) (k + 1)
    pair_miss t = left_miss left (sym (rw (later l i j h) at e) ∙ t)

    -- one that is adjacent is the first, with that look
    pub pair_hit : r ≡ true
        → record { first = get_or l i blank_standing; second = get_or (take (length l - (i + 1)) (drop (i + 1) l)) j blank_standing; looks = k + 1 } ≡ first_pair l
    pair_hit t =
        rw (later l i j h, left_hit left (sym (rw (later l i j h) at e) ∙ t), left_at (blank_standing, blank_standing) left, add-one k)

  -- past the last row there would be none, and there is one
  pub pairs_end : (i k : ℕ) (p : Pair) → AtRow l i k → length l ≤ i → passed_in l < length (pairs_of l) → p ≡ first_pair l
  pairs_end i k p q h found = absurd (omega (arith, left_end (rw (drop_of_length-le l {i = i} h) at q)))

-- the first adjacent pair of the list of candidates is the pair found
pub pair_of_lem : (m : ℕ) (t : Channels) (c : Circuit) (l : List Standing) (r : Pair) → l ≡ candidates m t c
    → passed m t c < length (pairs_of (candidates m t c)) → r ≡ first_pair l → r ≡ pair_of m t c
pair_of_lem m t c l r e h f =
    rw (← any_default (blank_standing, blank_standing) (newcomer c, newcomer c) (pairs_of (candidates m t c)) (passed m t c) h) (rw e at f)
