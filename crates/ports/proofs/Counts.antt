-- The tests on port counts, node by node, in part, and with zeros after them. Assumes nothing.
use Prim.Native.Nat.{ℕ, zero, suc, ◌+◌, ◌*◌, ◌-◌, ◌≤◌, ◌<◌, zero-le}
use mathlib.Core.Path.{◌≡◌, refl, sym, ap, ◌∙◌}
use mathlib.Core.Bool.{true}
use mathlib.Core.List.{List, [], ◌∷◌, ◌++◌}
use native.Mathlib.Omega.{arith}
use lib.Dec.{eqb, leb}
use lib.ListN.{length, get_or, take, drop, replicate, length-drop}
use lib.Seq.{take_all}
use mir.Syntax.{w8}
use mir.Val.{Fits}
use borrow.Author.Tests.{le-leb}
use Rattle.std.specs.List.{sum_by, list_all}
use Rattle.std.proofs.lemmas.List.Folds.{sum_by-zero}
use Rattle.std.proofs.lemmas.List.Sums.{sum_by-cons}
use Rattle.basis.specs.Count.{total}
use Rattle.basis.proofs.Bools.{and_left, and_right, and_both}
use Rattle.basis.proofs.Sums.{total_padded}
use Rattle.ports.specs.Ports.{wavelengths, limit_of, each_at_most}

-- 01: "W is K / 3 rounded up": three times W is K, K + 1 or K + 2
pub rounded_up : (ks : List ℕ) → (total ks ≤ 3 * wavelengths ks) × (3 * wavelengths ks < total ks + 3)
rounded_up ks = (omega arith, omega arith)

-- the sum of some bytes, and what they add up to at most
pub total_sum : (ks : List ℕ) → sum_by (λ k. k) ks ≡ total ks
total_sum [] = refl
total_sum (k ∷ ks) = sum_by-cons (λ k. k) k ks ∙ ap (λ (n : ℕ). k + n) (total_sum ks)

pub total_bytes : (ks : List ℕ) → ((i : ℕ) → Fits w8 (get_or ks i 0)) → total ks ≤ 255 * length ks
total_bytes [] h = zero-le
total_bytes (k ∷ ks) h = omega (arith, h 0, total_bytes ks (λ i. h (suc i)))

-- the test of every count
pub each_list : (m : ℕ) (ks : List ℕ) → list_all (λ k. leb k m) ks ≡ each_at_most m ks
each_list m [] = refl
each_list m (k ∷ ks) = rw (each_list m ks)

-- the counts are zeros where they add up to nothing
pub zeros_list : (ks : List ℕ) → list_all (λ k. eqb k 0) ks ≡ eqb (total ks) 0
zeros_list ks = sym (sum_by-zero (λ k. k) ks) ∙ ap (λ (n : ℕ). eqb n 0) (total_sum ks)

-- from the count after the first n on there are no others
pub last_counts : (ks rest : List ℕ) (w n m : ℕ) → length ks ≡ w → m ≡ n → rest ≡ take (w - m) (drop m ks) → rest ≡ drop n ks
last_counts ks rest w n m e f h = h ∙ rw f (take_all (w - n) (drop n ks) (omega (arith, length-drop n ks)))

-- zeros after the port counts are within every bound
pub each_zeros : (m : ℕ) (ks : List ℕ) (n : ℕ) → each_at_most m (ks ++ replicate n 0) ≡ each_at_most m ks
each_zeros m [] zero = refl
each_zeros m [] (suc n) = rw (le-leb 0 m zero-le) (each_zeros m [] n)
each_zeros m (k ∷ ks) n = rw (each_zeros m ks n)

-- and leave the limit as it is
pub limit_zeros : (ks : List ℕ) (n : ℕ) → limit_of (ks ++ replicate n 0) ≡ limit_of ks
limit_zeros ks n = rw (total_padded ks n)

-- counts that keep to their limit do so in part
pub each_take : (m N : ℕ) (ks : List ℕ) → each_at_most m ks ≡ true → each_at_most m (take N ks) ≡ true
each_take m zero ks h = refl
each_take m (suc N) [] h = refl
each_take m (suc N) (k ∷ ks) h = and_both (leb k m) _ (and_left (leb k m) (each_at_most m ks) h) (each_take m N ks (and_right (leb k m) (each_at_most m ks) h))
