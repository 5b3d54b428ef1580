-- The numbers below a bound: how many pass a test, and the first, under another bound, below a sum, and by another test. Assumes nothing.
use Prim.Native.Nat.{ℕ, zero, suc, ◌+◌, ◌-◌, ◌≤◌, ◌<◌, suc-le-suc}
use mathlib.Core.Path.{◌≡◌, refl, sym, ap, ◌∙◌}
use mathlib.Core.Bool.{Bool, true, false}
use native.Mathlib.Nat.{zero-add, suc-add, add_assoc, le_of_suc-le-suc}
use native.Mathlib.Omega.{arith}
use lib.Dec.{ltb}
use borrow.Author.Tests.{lt-ltb, le-ltb}
use Rattle.basis.specs.Choice.{bit}
use Rattle.basis.specs.Count.{count_below}
use Rattle.basis.specs.Search.{first_below}
use Rattle.basis.proofs.Search.{first_passes, before_fails, first_only, first_end}

-- tests that agree below n count and find the same
pub count_same : (n : ℕ) (f g : ℕ → Bool) → ((p : ℕ) → p < n → f p ≡ g p) → count_below n f ≡ count_below n g
count_same zero f g e = refl
count_same (suc n) f g e = simp (e 0 (omega arith), count_same n (λ p. f (suc p)) (λ p. g (suc p)) (λ p l. e (suc p) (suc-le-suc l)))

pub first_same : (n : ℕ) (f g : ℕ → Bool) → ((p : ℕ) → p < n → f p ≡ g p) → first_below n f ≡ first_below n g
first_same zero f g e = refl
first_same (suc n) f g e = simp (e 0 (omega arith), first_same n (λ p. f (suc p)) (λ p. g (suc p)) (λ p l. e (suc p) (suc-le-suc l)))

-- the count below k + m is that below k and that of the m after
pub count_sum : (k m : ℕ) (f : ℕ → Bool) → count_below (k + m) f ≡ count_below k f + count_below m (λ p. f (k + p))
count_sum zero m f = simp zero-add
count_sum (suc k) m f = simp (suc-add, count_sum k m (λ p. f (suc p)), add_assoc)

-- two tests count together what two others do, where each number passes as many of the one two as of the other two
pub count_balance : (n : ℕ) (f g h k : ℕ → Bool) → ((p : ℕ) → p < n → bit (f p) + bit (g p) ≡ bit (h p) + bit (k p))
    → count_below n f + count_below n g ≡ count_below n h + count_below n k
count_balance zero f g h k e = refl
count_balance (suc n) f g h k e =
    omega (arith, e 0 (omega arith), count_balance n (λ p. f (suc p)) (λ p. g (suc p)) (λ p. h (suc p)) (λ p. k (suc p)) (λ p l. e (suc p) (suc-le-suc l)))

-- where none passes, and where each does
pub count_none : (n : ℕ) (f : ℕ → Bool) → ((p : ℕ) → p < n → f p ≡ false) → count_below n f ≡ 0
count_none zero f e = refl
count_none (suc n) f e = simp (e 0 (omega arith), count_none n (λ p. f (suc p)) (λ p l. e (suc p) (suc-le-suc l)))

pub count_every : (n : ℕ) (f : ℕ → Bool) → ((p : ℕ) → p < n → f p ≡ true) → count_below n f ≡ n
count_every zero f e = refl
count_every (suc n) f e = simp (e 0 (omega arith), count_every n (λ p. f (suc p)) (λ p l. e (suc p) (suc-le-suc l))) (omega arith)

-- of the numbers below n those below s are s
pub count_less : (n s : ℕ) → s ≤ n → count_below n (λ p. ltb p s) ≡ s
count_less n s h =
    let e : s + (n - s) ≡ n = omega arith in
    let low = count_every s (λ p. ltb p s) (λ p l. lt-ltb p s l) in
    let high = count_none (n - s) (λ p. ltb (s + p) s) (λ p l. le-ltb (s + p) s (omega arith)) in
    omega (arith, ap (λ (k : ℕ). count_below k (λ p. ltb p s)) e, count_sum s (n - s) (λ p. ltb p s), low, high)

-- the first below m, where it is found, is the first below n
pub first_bound : (m n : ℕ) (f : ℕ → Bool) → first_below m f < m → first_below m f < n → first_below n f ≡ first_below m f
first_bound m n f h l = first_only n f (first_below m f) l (first_passes m f h) (before_fails m f)

-- the first below n, where it is below m, is the first below m; where it is not, there is none below m
pub first_within : (m n : ℕ) (f : ℕ → Bool) (r : ℕ) → r ≡ first_below n f → m ≤ n → r < m → r ≡ first_below m f
first_within m n f r e l h = e ∙ sym (first_bound n m f (omega arith) (omega arith))

pub none_within : (m n : ℕ) (f : ℕ → Bool) (r : ℕ) → r ≡ first_below n f → m ≤ r → m ≡ first_below m f
none_within m n f r e h = sym (first_end m f (λ q k. before_fails n f q (omega arith)))

-- where none is found below k, the first below k + m
pub first_sum : (k m : ℕ) (f : ℕ → Bool) → k ≤ first_below k f → first_below (k + m) f ≡ k + first_below m (λ p. f (k + p))
first_sum zero m f h = simp zero-add
first_sum (suc k) m f h = go (f 0) refl (first_sum k m (λ p. f (suc p)))
  where
    go : (b : Bool) → f 0 ≡ b → (k ≤ first_below k (λ p. f (suc p)) → first_below (k + m) (λ p. f (suc p)) ≡ k + first_below m (λ p. f (suc (k + p))))
        → first_below (suc k + m) f ≡ suc k + first_below m (λ p. f (suc k + p))
    go true e rest = absurd (omega (arith, rw e at h))
    go false e rest = simp (suc-add, e) (ap suc (rest (le_of_suc-le-suc (rw e at h))))
