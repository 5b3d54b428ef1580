-- Two bytes for each link written into a buffer. Assumes nothing.
use Prim.Native.Nat.{ℕ, zero, suc, ◌+◌, ◌*◌, ◌≤◌, ◌<◌}
use mathlib.Core.Path.{◌≡◌, refl, ap, ◌∙◌}
use mathlib.Core.List.{List, [], ◌∷◌, ◌++◌, append_assoc}
use native.Mathlib.Numerals.{add-one}
use native.Mathlib.Decide.{ℕ_discrete}
use native.Mathlib.Omega.{arith}
use lib.ListN.{length, drop, set, get_or, length-append, length-set}
use lib.Seq.{drop-cons, get_or-append-add}
use Rattle.lightpath.specs.declared.Direction.TheVariants.{Clockwise as clockwise, Counterclockwise as counterclockwise}
use Rattle.channels.specs.Channels.{Channels}
use Rattle.load.specs.Load.{link_load, loads_to}
use Rattle.load.specs.Walk.{pairs_to}

-- two bytes stored one after the other
set_two : (xs : List ℕ) (x y : ℕ) (ys : List ℕ) (a b : ℕ) → set (set (xs ++ (x ∷ y ∷ ys)) (length xs) a) (suc (length xs)) b ≡ xs ++ (a ∷ b ∷ ys)
set_two [] x y ys a b = refl
set_two (z ∷ xs) x y ys a b = rw (set_two xs x y ys a b)

-- two bytes off the rest of a list
drop_two : (l : List ℕ) (k : ℕ) → suc k < length l → drop k l ≡ get_or l k 0 ∷ get_or l (suc k) 0 ∷ drop (suc (suc k)) l
drop_two l k h = drop-cons l k 0 (omega arith) ∙ rw (drop-cons l (suc k) 0 h)

module _ (a b : ℕ → ℕ) where
  -- two bytes for each link
  pub pairs_length : (k : ℕ) → length (pairs_to k a b) ≡ 2 * k
  unfolding pairs_to
  pairs_length zero = refl
  pairs_length (suc k) = simp length-append (omega (arith, pairs_length k))

  -- the buffer l is the buffer out with two bytes for each of the links 1 to k of N
  pub record Filled (N : ℕ) (out : List ℕ) (k : ℕ) (l : List ℕ) : Type 0 where
    pub up_to : k ≤ N
    pub long : length l ≡ length out
    pub bytes : l ≡ pairs_to k a b ++ drop (2 * k) out

  module _ (N : ℕ) (out : List ℕ) where
    -- none is written
    pub fill_start : Filled N out 0 out
    unfolding pairs_to
    fill_start = record { up_to = omega arith; long = refl; bytes = refl }

    -- two bytes more
    pub fill_next : (k : ℕ) (l : List ℕ) (x y : ℕ) → Filled N out k l → k < N → 2 * N ≤ length out → x ≡ a (k + 1) → y ≡ b (k + 1)
        → Filled N out (k + 1) (set (set l (2 * k) x) (2 * k + 1) y)
    unfolding pairs_to
    fill_next k l x y h i room ea eb = record { up_to = omega arith; long = simp length-set h.long; bytes = bytes }
      where
        bytes : set (set l (2 * k) x) (2 * k + 1) y ≡ pairs_to (k + 1) a b ++ drop (2 * (k + 1)) out
        bytes =
            let one : 2 * k + 1 ≡ suc (2 * k) = omega arith in
            let two : 2 * (k + 1) ≡ suc (suc (2 * k)) = omega arith in
            rw (one, two, h.bytes, drop_two out (2 * k) (omega arith), ← pairs_length k, set_two, ea, eb, add-one, append_assoc)

    -- all are written
    pub fill_end : (k : ℕ) (l : List ℕ) → Filled N out k l → N ≤ k → l ≡ pairs_to N a b ++ drop (2 * N) out
    fill_end k l h i = let e : k ≡ N = omega arith in rw e at h.bytes

pub ruleset filling = (fill_start, fill_next, fill_end)

-- pairs that agree for each of 1 to k are the same
pub pairs_same : (a b x y : ℕ → ℕ) (k : ℕ) → ((j : ℕ) → j < k → (a (suc j) ≡ x (suc j)) × (b (suc j) ≡ y (suc j))) → pairs_to k a b ≡ pairs_to k x y
unfolding pairs_to
pairs_same a b x y zero h = refl
pairs_same a b x y (suc k) h =
    rw (pairs_same a b x y k (λ j l. h j (omega arith)), (h k (omega arith)).0, (h k (omega arith)).1)

-- the loads are such pairs
pub loads_pairs : (k N : ℕ) (t : Channels) → loads_to k N t ≡ pairs_to k (λ l. link_load N t clockwise l) (λ l. link_load N t counterclockwise l)
unfolding loads_to pairs_to
loads_pairs zero N t = refl
loads_pairs (suc k) N t = rw (loads_pairs k N t)

-- so they are two bytes for each link
pub loads_length : (N : ℕ) (t : Channels) (k : ℕ) → length (loads_to k N t) ≡ 2 * k
loads_length N t k = rw (loads_pairs k N t) (pairs_length _ _ k)

-- those of link k + 1 stand at 2 × k and after it
module _ (a b : ℕ → ℕ) where
  pub pairs_at : (n : ℕ) (rest : List ℕ) (k : ℕ) → k < n
      → (get_or (pairs_to n a b ++ rest) (2 * k) 0 ≡ a (suc k)) × (get_or (pairs_to n a b ++ rest) (2 * k + 1) 0 ≡ b (suc k))
  unfolding pairs_to
  pairs_at zero rest k i = absurd (omega arith)
  pairs_at (suc n) rest k i = go (ℕ_discrete k n) (λ l. pairs_at n (a (suc n) ∷ b (suc n) ∷ rest) k l)
    where
      go : Dec (k ≡ n)
          → (k < n → (get_or (pairs_to n a b ++ (a (suc n) ∷ b (suc n) ∷ rest)) (2 * k) 0 ≡ a (suc k)) × (get_or (pairs_to n a b ++ (a (suc n) ∷ b (suc n) ∷ rest)) (2 * k + 1) 0 ≡ b (suc k)))
          → (get_or ((pairs_to n a b ++ (a (suc n) ∷ b (suc n) ∷ [])) ++ rest) (2 * k) 0 ≡ a (suc k))
          × (get_or ((pairs_to n a b ++ (a (suc n) ∷ b (suc n) ∷ [])) ++ rest) (2 * k + 1) 0 ≡ b (suc k))
      go (no m) before = rw (append_assoc (pairs_to n a b) (a (suc n) ∷ b (suc n) ∷ []) rest) (before (omega (arith, m)))
      go (yes e) before =
          let zero-on : 2 * n ≡ length (pairs_to n a b) + 0 = omega (arith, pairs_length a b n) in
          let one_on : 2 * n + 1 ≡ length (pairs_to n a b) + 1 = omega (arith, pairs_length a b n) in
          rw (e, append_assoc (pairs_to n a b) (a (suc n) ∷ b (suc n) ∷ []) rest) (
            ap (λ j. get_or (pairs_to n a b ++ (a (suc n) ∷ b (suc n) ∷ rest)) j 0) zero-on ∙ get_or-append-add (pairs_to n a b) (a (suc n) ∷ b (suc n) ∷ rest) 0 0,
            ap (λ j. get_or (pairs_to n a b ++ (a (suc n) ∷ b (suc n) ∷ rest)) j 0) one_on ∙ get_or-append-add (pairs_to n a b) (a (suc n) ∷ b (suc n) ∷ rest) 1 0,
          )
