-- The numbers below a bound and the elements of a list: every one, and the first that passes a test. Assumes nothing.
use Prim.Native.Nat.{ℕ, zero, suc, ◌≤◌, ◌<◌, suc-le-suc}
use mathlib.Core.Path.{◌≡◌, refl, sym, ap}
use mathlib.Core.Bool.{Bool, true, false, ◌&&◌, not, and-false}
use mathlib.Core.List.{List, [], ◌∷◌}
use native.Mathlib.Nat.{le_of_suc-le-suc, not-suc-le-zero}
use native.Mathlib.Omega.{arith}
use lib.Dec.{leb}
use lib.ListN.{length, get_or}
use borrow.Author.Tests.{leb-true, le-leb, not-true}
use Rattle.basis.specs.Count.{All}
use Rattle.basis.specs.Search.{every_below, first_below, first_place}
use Rattle.basis.proofs.Bools.{and_left, and_right, and_both, same_test}

-- where every number below n passes, each does
pub every_at : (n : ℕ) (f : ℕ → Bool) → every_below n f ≡ true → (p : ℕ) → p < n → f p ≡ true
every_at zero f h p l = absurd (not-suc-le-zero l)
every_at (suc n) f h zero l = and_left _ _ h
every_at (suc n) f h (suc p) l = every_at n (λ p. f (suc p)) (and_right (f 0) _ h) p (le_of_suc-le-suc l)

-- and back
pub at_every : (n : ℕ) (f : ℕ → Bool) → ((p : ℕ) → p < n → f p ≡ true) → every_below n f ≡ true
at_every zero f h = refl
at_every (suc n) f h = and_both _ _ (h 0 (omega arith)) (at_every n (λ p. f (suc p)) (λ p l. h (suc p) (suc-le-suc l)))

-- tests that agree below n agree on that
pub every_same : (n : ℕ) (f g : ℕ → Bool) → ((p : ℕ) → p < n → f p ≡ g p) → every_below n f ≡ every_below n g
every_same zero f g h = refl
every_same (suc n) f g h = simp (h 0 (omega arith), every_same n (λ p. f (suc p)) (λ p. g (suc p)) (λ p l. h (suc p) (suc-le-suc l)))

-- two tests pass of every number below n where each does
pub every_and : (n : ℕ) (f g : ℕ → Bool) → every_below n (λ p. f p && g p) ≡ (every_below n f && every_below n g)
every_and zero f g = refl
every_and (suc n) f g = rw (every_and n (λ p. f (suc p)) (λ p. g (suc p))) (four (f 0) (g 0) (every_below n (λ p. f (suc p))) (every_below n (λ p. g (suc p))))
  where
    four : (a b c d : Bool) → (a && b && (c && d)) ≡ (a && c && (b && d))
    four true true c d = refl
    four true false c d = sym (and-false c)
    four false b c d = refl

-- the first that is found passes
pub first_passes : (n : ℕ) (f : ℕ → Bool) → first_below n f < n → f (first_below n f) ≡ true
first_passes zero f h = absurd (not-suc-le-zero h)
first_passes (suc n) f h = go (f 0) refl (λ k. first_passes n (λ p. f (suc p)) k)
  where
    go : (b : Bool) → f 0 ≡ b → (first_below n (λ p. f (suc p)) < n → f (suc (first_below n (λ p. f (suc p)))) ≡ true) → f (first_below (suc n) f) ≡ true
    go true e rest = rw e e
    go false e rest = rw e (rest (le_of_suc-le-suc (rw e at h)))

-- each before it fails
pub before_fails : (n : ℕ) (f : ℕ → Bool) (p : ℕ) → p < first_below n f → f p ≡ false
before_fails zero f p h = absurd (not-suc-le-zero h)
before_fails (suc n) f p h = go (f 0) refl p h (λ q k. before_fails n (λ p. f (suc p)) q k)
  where
    go : (b : Bool) → f 0 ≡ b → (p : ℕ) → p < first_below (suc n) f → ((q : ℕ) → q < first_below n (λ p. f (suc p)) → f (suc q) ≡ false) → f p ≡ false
    go true e p h rest = absurd (not-suc-le-zero (rw e at h))
    go false e zero h rest = e
    go false e (suc p) h rest = rest p (le_of_suc-le-suc (rw e at h))

-- where none is found, none passes
pub none_passes_below : (n : ℕ) (f : ℕ → Bool) → n ≤ first_below n f → (p : ℕ) → p < n → f p ≡ false
none_passes_below n f h p l = before_fails n f p (omega arith)

-- a number that passes, with none before it that does, is the one found
pub first_only : (n : ℕ) (f : ℕ → Bool) (p : ℕ) → p < n → f p ≡ true → ((q : ℕ) → q < p → f q ≡ false) → first_below n f ≡ p
first_only zero f p l h none = absurd (not-suc-le-zero l)
first_only (suc n) f zero l h none = rw h
first_only (suc n) f (suc p) l h none =
    rw (none 0 (omega arith)) (ap suc (first_only n (λ p. f (suc p)) p (le_of_suc-le-suc l) h (λ q k. none (suc q) (suc-le-suc k))))

-- where none passes, none is found
pub first_end : (n : ℕ) (f : ℕ → Bool) → ((q : ℕ) → q < n → f q ≡ false) → first_below n f ≡ n
first_end zero f none = refl
first_end (suc n) f none = rw (none 0 (omega arith)) (ap suc (first_end n (λ p. f (suc p)) (λ q k. none (suc q) (suc-le-suc k))))

-- none is found exactly where every number below n fails
pub none_found_lem : (n : ℕ) (f : ℕ → Bool) → leb n (first_below n f) ≡ every_below n (λ p. not (f p))
none_found_lem n f = same_test (leb n (first_below n f)) (every_below n (λ p. not (f p))) fail none
  where
    fail : leb n (first_below n f) ≡ true → every_below n (λ p. not (f p)) ≡ true
    fail h = at_every n (λ p. not (f p)) (λ p l. ap not (none_passes_below n f (leb-true n (first_below n f) h) p l))

    none : every_below n (λ p. not (f p)) ≡ true → leb n (first_below n f) ≡ true
    none h = let e = first_end n f (λ q l. not-true (f q) (every_at n (λ p. not (f p)) h q l)) in le-leb n (first_below n f) (omega arith)

-- of a list too, the first that is found passes
pub found_passes : {A : Type 0} (f : A → Bool) (d : A) (l : List A) → first_place f l < length l → f (get_or l (first_place f l) d) ≡ true
found_passes f d [] h = absurd (not-suc-le-zero h)
found_passes f d (x ∷ xs) h = go (f x) refl (λ k. found_passes f d xs k)
  where
    go : (b : Bool) → f x ≡ b → (first_place f xs < length xs → f (get_or xs (first_place f xs) d) ≡ true)
        → f (get_or (x ∷ xs) (first_place f (x ∷ xs)) d) ≡ true
    go true e rest = rw e e
    go false e rest = rw e (rest (le_of_suc-le-suc (rw e at h)))

-- an element that there is does not depend on the default
pub any_default : {A : Type 0} (d e : A) (l : List A) (i : ℕ) → i < length l → get_or l i d ≡ get_or l i e
any_default d e [] i h = absurd (not-suc-le-zero h)
any_default d e (x ∷ xs) zero h = refl
any_default d e (x ∷ xs) (suc i) h = any_default d e xs i (le_of_suc-le-suc h)

-- what holds of each element holds at each position
pub all_at : {A : Type 0} (P : A → Type 0) (d : A) (l : List A) → All P l → (i : ℕ) → i < length l → P (get_or l i d)
all_at P d [] h i k = absurd (not-suc-le-zero k)
all_at P d (x ∷ xs) h zero k = h.0
all_at P d (x ∷ xs) h (suc i) k = all_at P d xs h.1 i (le_of_suc-le-suc k)

-- and back
pub at_all : {A : Type 0} (P : A → Type 0) (d : A) (l : List A) → ((i : ℕ) → i < length l → P (get_or l i d)) → All P l
at_all P d [] h = tt
at_all P d (x ∷ xs) h = (h 0 (omega arith), at_all P d xs (λ i k. h (suc i) (suc-le-suc k)))

-- where none is found in a list, none of it passes
pub none_passes : {A : Type 0} (f : A → Bool) (l : List A) → (first_place f l < length l → ⊥) → All (λ x. f x ≡ false) l
none_passes f [] h = tt
none_passes f (x ∷ xs) h = go (f x) refl (λ k. none_passes f xs k)
  where
    go : (b : Bool) → f x ≡ b → ((first_place f xs < length xs → ⊥) → All (λ x. f x ≡ false) xs) → All (λ x. f x ≡ false) (x ∷ xs)
    go true e rest = absurd (h (rw e (omega arith)))
    go false e rest = (e, rest (λ l. h (rw e (omega arith))))
