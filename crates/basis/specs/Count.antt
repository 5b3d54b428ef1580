-- Counting, over lists and over the numbers below a bound. Assumes nothing. What every promise means by these words.
use Rattle.std.specs.Prelude.{ℕ, zero, suc, ◌+◌, Bool, true, ◌&&◌, List, [], ◌∷◌, eqb}
use Rattle.basis.specs.Choice.{bit}

-- the sum of a weight over a list
abbrev pub weigh : {A : Type 0} → (A → ℕ) → List A → ℕ
weigh w [] = 0
weigh w (x ∷ xs) = w x + weigh w xs

-- the sum of a list of numbers
abbrev pub total : List ℕ → ℕ
total [] = 0
total (k ∷ ks) = k + total ks

-- how many elements have the key k
abbrev pub tally : {A : Type 0} → (A → ℕ) → ℕ → List A → ℕ
tally key k xs = weigh (λ x. bit (eqb (key x) k)) xs

-- no two elements have one key
abbrev pub distinct : {A : Type 0} → (A → ℕ) → List A → Bool
distinct key [] = true
distinct key (x ∷ xs) = eqb (tally key (key x) xs) 0 && distinct key xs

-- a fact holds of each element
abbrev pub All : {A : Type 0} → (A → Type 0) → List A → Type 0
All P [] = Unit {0}
All P (x ∷ xs) = P x × All P xs

-- how many of the numbers below n pass a test
abbrev pub count_below : ℕ → (ℕ → Bool) → ℕ
count_below zero f = 0
count_below (suc n) f = bit (f 0) + count_below n (λ p. f (suc p))
