-- Sums of numbers and over the nodes, and the count of a list by its keys. Assumes nothing.
use Prim.Native.Nat.{ℕ, zero, suc, ◌+◌, ◌≤◌, ◌<◌, zero-le, suc-le-suc}
use mathlib.Core.Path.{◌≡◌, refl, ap}
use mathlib.Core.List.{List, [], ◌∷◌, ◌++◌}
use native.Mathlib.Nat.{le_of_suc-le-suc, not-suc-le-zero}
use native.Mathlib.Omega.{arith}
use lib.Dec.{eqb, eqb-zero-suc, eqb-suc-zero, eqb-suc-suc}
use lib.ListN.{length, get_or, replicate}
use Rattle.basis.specs.Choice.{bit}
use Rattle.basis.specs.Count.{tally, All, total}

-- the sum of two lists of numbers joined
total_append : (ks ls : List ℕ) → total (ks ++ ls) ≡ total ks + total ls
total_append [] ls = omega arith
total_append (k ∷ ks) ls = omega (arith, total_append ks ls)

-- zeros add up to nothing
pub total_zeros : (n : ℕ) → total (replicate n 0) ≡ 0
total_zeros zero = refl
total_zeros (suc n) = omega (arith, total_zeros n)

-- and change no sum that they stand after
pub total_padded : (ks : List ℕ) (n : ℕ) → total (ks ++ replicate n 0) ≡ total ks
total_padded ks n = omega (arith, total_append ks (replicate n 0), total_zeros n)

-- numbers that add up to nothing are zeros
pub zeros : (ls : List ℕ) → total ls ≡ 0 → ls ≡ replicate (length ls) 0
zeros [] e = refl
zeros (l ∷ ls) e =
    let z : l ≡ 0 = omega arith in
    let r : ls ≡ replicate (length ls) 0 = zeros ls (omega arith) in
    rw z (ap (λ (x : List ℕ). 0 ∷ x) r)

-- f 0 + .. + f (n - 1)
abbrev pub sum_below : (ℕ → ℕ) → ℕ → ℕ
sum_below f zero = 0
sum_below f (suc n) = f zero + sum_below (λ j. f (suc j)) n

-- numbers that are at most those of a list add up to at most its sum
pub sum_le : (f : ℕ → ℕ) (ks : List ℕ) → ((j : ℕ) → j < length ks → f j ≤ get_or ks j 0) → sum_below f (length ks) ≤ total ks
sum_le f [] h = zero-le
sum_le f (k ∷ ks) h = omega (arith, h zero (omega arith), sum_le (λ j. f (suc j)) ks (λ j l. h (suc j) (suc-le-suc l)))

-- the sum of sums
pub sum_add : (f g : ℕ → ℕ) (n : ℕ) → sum_below (λ j. f j + g j) n ≡ sum_below f n + sum_below g n
sum_add f g zero = refl
sum_add f g (suc n) = omega (arith, sum_add (λ j. f (suc j)) (λ j. g (suc j)) n)

-- zeros add up to nothing here too
sum_zero : (n : ℕ) → sum_below (λ j. 0) n ≡ 0
sum_zero zero = refl
sum_zero (suc n) = omega (arith, sum_zero n)

-- of the numbers below n one is s
point : (s n : ℕ) → s < n → sum_below (λ j. bit (eqb s j)) n ≡ 1
point s zero h = absurd (not-suc-le-zero h)
point zero (suc n) h = simp eqb-zero-suc (omega (arith, sum_zero n))
point (suc s) (suc n) h = simp (eqb-suc-zero, eqb-suc-suc) (omega (arith, point s n (le_of_suc-le-suc h)))

-- of the nodes 1 to N too
node : (s N : ℕ) → 1 ≤ s → s ≤ N → sum_below (λ j. bit (eqb s (suc j))) N ≡ 1
node zero N l h = absurd (not-suc-le-zero l)
node (suc s) N l h = simp eqb-suc-suc (point s N h)

-- each element is counted at one node
pub by_nodes : {A : Type 0} (key : A → ℕ) (N : ℕ) (xs : List A) → All (λ x. (1 ≤ key x) × (key x ≤ N)) xs
    → sum_below (λ j. tally key (suc j) xs) N ≡ length xs
by_nodes key N [] h = sum_zero N
by_nodes key N (x ∷ xs) h =
    omega (arith, sum_add (λ j. bit (eqb (key x) (suc j))) (λ j. tally key (suc j) xs) N, node (key x) N h.0.0 h.0.1, by_nodes key N xs h.1)
