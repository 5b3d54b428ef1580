-- A loop over the numbers below n, or over a list, that adds up as it goes. `search (rules, fold)` finds its steps. Assumes nothing.
use Prim.Native.Nat.{ℕ, zero, suc, ◌+◌, ◌≤◌}
use mathlib.Core.Path.{◌≡◌, refl, sym, ◌∙◌}
use mathlib.Core.List.{List, [], ◌∷◌}
use native.Mathlib.Nat.{le_of_suc-le-suc}
use native.Mathlib.Omega.{arith}
use native.Mathlib.Numerals.{add-one}
use lib.ListN.{length, get_or, take, drop}
use Rattle.basis.specs.Count.{total}
use Rattle.basis.proofs.Sums.{sum_below}

-- one number more
sum_suc : (f : ℕ → ℕ) (n : ℕ) → sum_below f (suc n) ≡ sum_below f n + f n
sum_suc f zero = omega arith
sum_suc f (suc n) = omega (arith, sum_suc (λ j. f (suc j)) n)

-- the numbers below i add up to s
pub record Summed (f : ℕ → ℕ) (i s : ℕ) : Type 0 where
  pub so_far : s ≡ sum_below f i

-- the start of the loop
pub sum_start : (f : ℕ → ℕ) → Summed f 0 0
sum_start f = record { so_far = refl }

-- its step
pub sum_next : (f : ℕ → ℕ) (i s x : ℕ) → Summed f i s → x ≡ f i → Summed f (i + 1) (s + x)
sum_next f i s x h e = record { so_far = rw add-one (omega (arith, h.so_far, sum_suc f i)) }

-- the first n of a list of numbers, position by position
total_take : (ks : List ℕ) (n : ℕ) → n ≤ length ks → total (take n ks) ≡ sum_below (λ i. get_or ks i 0) n
total_take ks zero l = refl
total_take [] (suc n) l = absurd (omega arith)
total_take (k ∷ ks) (suc n) l = omega (arith, total_take ks n (le_of_suc-le-suc l))

-- the end of a loop over those
pub total_end : (ks : List ℕ) (w n i s : ℕ) → Summed (λ j. get_or ks j 0) i s → length ks ≡ w → n ≤ w → n ≤ i → i ≤ n → s ≡ total (take n ks)
total_end ks w n i s h e m l k = let z : i ≡ n = omega arith in (rw z at h.so_far) ∙ sym (total_take ks n (omega arith))

-- the sum of a list is that of its two parts
pub total_parts : (ks : List ℕ) (n : ℕ) → total ks ≡ total (take n ks) + total (drop n ks)
total_parts ks zero = omega arith
total_parts [] (suc n) = omega arith
total_parts (k ∷ ks) (suc n) = omega (arith, total_parts ks n)

pub ruleset fold = (sum_start, sum_next, total_end)
