-- Searching: the numbers below a bound, the pairs of a list, and the first that passes a test. Assumes nothing. What every
-- promise means by these words.
use Rattle.std.specs.Prelude.{ℕ, zero, suc, Bool, true, ◌&&◌, List, [], ◌∷◌, ◌++◌}
use Rattle.basis.specs.Choice.{pick}

-- every number below n passes a test
abbrev pub every_below : ℕ → (ℕ → Bool) → Bool
every_below zero f = true
every_below (suc n) f = f 0 && every_below n (λ p. f (suc p))

-- the first number below n that passes a test, or n where none does
abbrev pub first_below : ℕ → (ℕ → Bool) → ℕ
first_below zero f = 0
first_below (suc n) f = pick (f 0) 0 (suc (first_below n (λ p. f (suc p))))

-- the position of the first element that passes a test, or the length where none does
abbrev pub first_place : {A : Type 0} → (A → Bool) → List A → ℕ
first_place f [] = 0
first_place f (x ∷ xs) = pick (f x) 0 (suc (first_place f xs))

-- the pairs of an element with each of a list
abbrev pub pairs_with : {A : Type 0} → A → List A → List (A × A)
pairs_with a [] = []
pairs_with a (b ∷ bs) = (a, b) ∷ pairs_with a bs

-- the pairs of a list, by first member, then second
abbrev pub pairs_of : {A : Type 0} → List A → List (A × A)
pairs_of [] = []
pairs_of (a ∷ rest) = pairs_with a rest ++ pairs_of rest
