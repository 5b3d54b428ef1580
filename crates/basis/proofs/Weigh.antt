-- Weights, and distinct keys. Assumes nothing.
use Prim.Native.Nat.{ℕ, zero, suc, ◌+◌, ◌≤◌, ◌<◌, zero-le}
use mathlib.Core.Path.{◌≡◌, refl, sym, ◌∙◌}
use mathlib.Core.Bool.{Bool, true, false}
use mathlib.Core.List.{List, [], ◌∷◌, ◌++◌, map}
use native.Mathlib.Nat.{le_of_suc-le-suc, not-suc-le-zero}
use native.Mathlib.Decide.{ℕ_discrete}
use native.Mathlib.Omega.{arith}
use lib.Dec.{eqb}
use lib.ListN.{length, get_or, set}
use borrow.Author.Tests.{eqb-true, eq-eqb, ne_eqb}
use Rattle.basis.specs.Choice.{pick, bit}
use Rattle.basis.specs.Count.{weigh, tally, distinct, All}
use Rattle.basis.proofs.Bools.{and_left, and_right, and_both, bit_eq, bit_ne, all_map, all_and}
use Rattle.basis.proofs.Compare.{eqb_swap}

-- the weight of two lists joined
pub weigh_append : {A : Type 0} (w : A → ℕ) (xs ys : List A) → weigh w (xs ++ ys) ≡ weigh w xs + weigh w ys
weigh_append w [] ys = omega arith
weigh_append w (x ∷ xs) ys = omega (arith, weigh_append w xs ys)

-- a list mapped weighs what its elements do, mapped
pub weigh_map : {A B : Type 0} (w : B → ℕ) (f : A → B) (xs : List A) → weigh w (map f xs) ≡ weigh (λ x. w (f x)) xs
weigh_map w f [] = refl
weigh_map w f (x ∷ xs) = omega (arith, weigh_map w f xs)

-- two weights that agree on each element agree on the list
pub weigh_same : {A : Type 0} (f g : A → ℕ) (xs : List A) → All (λ x. f x ≡ g x) xs → weigh f xs ≡ weigh g xs
weigh_same f g [] h = refl
weigh_same f g (x ∷ xs) h = omega (arith, weigh_same f g xs h.1)

-- two weights whose sum is that of two others on each element have that sum on the list
pub weigh_balance : {A : Type 0} (f g h k : A → ℕ) (xs : List A) → All (λ x. f x + g x ≡ h x + k x) xs
    → weigh f xs + weigh g xs ≡ weigh h xs + weigh k xs
weigh_balance f g h k [] e = refl
weigh_balance f g h k (x ∷ xs) e = omega (arith, weigh_balance f g h k xs e.1)

-- the sum of two weights
weigh_add : {A : Type 0} (f g : A → ℕ) (xs : List A) → weigh (λ x. f x + g x) xs ≡ weigh f xs + weigh g xs
weigh_add f g [] = refl
weigh_add f g (x ∷ xs) = omega (arith, weigh_add f g xs)

-- a weight of pairs has one sum over two lists, whichever is gone through first
pub weigh_swap : {A B : Type 0} (f : A → B → ℕ) (xs : List A) (ys : List B) → weigh (λ x. weigh (f x) ys) xs ≡ weigh (λ y. weigh (λ x. f x y) xs) ys
weigh_swap f [] [] = refl
weigh_swap f [] (y ∷ ys) = omega (arith, weigh_swap f [] ys)
weigh_swap f (x ∷ xs) ys = omega (arith, weigh_swap f xs ys, weigh_add (f x) (λ y. weigh (λ x. f x y) xs) ys)

-- a list in which each element weighs at most 1 weighs at most its length
pub weigh_most : {A : Type 0} (w : A → ℕ) → ((x : A) → w x ≤ 1) → (xs : List A) → weigh w xs ≤ length xs
weigh_most w h [] = omega arith
weigh_most w h (x ∷ xs) = omega (arith, h x, weigh_most w h xs)

-- and so it does by two weights of which each element has at most 1 together
pub weigh_apart : {A : Type 0} (f g : A → ℕ) (xs : List A) → All (λ x. f x + g x ≤ 1) xs → weigh f xs + weigh g xs ≤ length xs
weigh_apart f g [] h = omega arith
weigh_apart f g (x ∷ xs) h = omega (arith, weigh_apart f g xs h.1)

-- where each element weighs nothing, the list does
pub none_weigh : {A : Type 0} (w : A → ℕ) (xs : List A) → All (λ x. w x ≡ 0) xs → weigh w xs ≡ 0
none_weigh w [] h = refl
none_weigh w (x ∷ xs) h = omega (arith, none_weigh w xs h.1)

-- where each weighs 1, it weighs its length
pub ones_weigh : {A : Type 0} (w : A → ℕ) (xs : List A) → All (λ x. w x ≡ 1) xs → weigh w xs ≡ length xs
ones_weigh w [] h = refl
ones_weigh w (x ∷ xs) h = omega (arith, ones_weigh w xs h.1)

-- where the list weighs nothing, each element does
pub weigh_zero : {A : Type 0} (w : A → ℕ) (xs : List A) → weigh w xs ≡ 0 → All (λ x. w x ≡ 0) xs
weigh_zero w [] h = tt
weigh_zero w (x ∷ xs) h = (omega arith, weigh_zero w xs (omega arith))

-- a store takes the old element's weight and gives the new one's
pub weigh_set : {A : Type 0} (w : A → ℕ) (d : A) (xs : List A) (i : ℕ) (x : A) → i < length xs
    → weigh w (set xs i x) + w (get_or xs i d) ≡ weigh w xs + w x
weigh_set w d [] i x l = absurd (not-suc-le-zero l)
weigh_set w d (y ∷ xs) zero x l = omega arith
weigh_set w d (y ∷ xs) (suc i) x l = omega (arith, weigh_set w d xs i x (le_of_suc-le-suc l))

-- a test counts at most 1
pub bit_most : (b : Bool) → bit b ≤ 1
bit_most true = omega arith
bit_most false = omega arith

-- each element is counted under its key
pub counted : {A : Type 0} (key : A → ℕ) (xs : List A) → All (λ x. 0 < tally key (key x) xs) xs
counted key [] = tt
counted key (x ∷ xs) = (
  omega (arith, bit_eq (key x) (key x) refl),
  all_map (λ y. 0 < tally key (key y) xs) (λ y. 0 < tally key (key y) (x ∷ xs)) (λ y h. omega arith) xs (counted key xs),
)

-- what holds of each element by its key holds of each key that there is
pub by_key : {A : Type 0} (key : A → ℕ) (P : ℕ → Type 0) (xs : List A) → All (λ x. P (key x)) xs → (k : ℕ) → 0 < tally key k xs → P k
by_key key P [] h k l = absurd (omega arith)
by_key key P (x ∷ xs) h k l = go (ℕ_discrete (key x) k) (by_key key P xs h.1 k)
  where
    go : Dec (key x ≡ k) → (0 < tally key k xs → P k) → P k
    go (yes e) rest = rw e at h.0
    go (no n) rest = rest (omega (arith, bit_ne (key x) k n))

-- two lists have as many pairs of one key whichever is counted by the keys of the other
pub tally_swap : {A B : Type 0} (f : A → ℕ) (g : B → ℕ) (xs : List A) (ys : List B)
    → weigh (λ x. tally g (f x) ys) xs ≡ weigh (λ y. tally f (g y) xs) ys
tally_swap f g xs ys =
    (λ i. weigh (λ x. weigh (λ y. bit (eqb_swap (g y) (f x) i)) ys) xs) ∙ weigh_swap (λ x y. bit (eqb (f x) (g y))) xs ys

-- where keys are distinct, each is counted at most once
pub distinct_most : {A : Type 0} (key : A → ℕ) (xs : List A) → distinct key xs ≡ true → (k : ℕ) → tally key k xs ≤ 1
distinct_most key [] h k = zero-le
distinct_most key (x ∷ xs) h k = go (ℕ_discrete (key x) k) (distinct_most key xs (and_right (eqb (tally key (key x) xs) 0) _ h) k)
  where
    none : tally key (key x) xs ≡ 0
    none = eqb-true _ _ (and_left _ _ h)

    go : Dec (key x ≡ k) → tally key k xs ≤ 1 → tally key k (x ∷ xs) ≤ 1
    go (yes e) rest = omega (arith, bit_eq (key x) k e, rw e at none)
    go (no n) rest = omega (arith, bit_ne (key x) k n)

-- and back
pub most_distinct : {A : Type 0} (key : A → ℕ) (xs : List A) → ((k : ℕ) → tally key k xs ≤ 1) → distinct key xs ≡ true
most_distinct key [] h = refl
most_distinct key (x ∷ xs) h =
    and_both _ _ (eq-eqb (tally key (key x) xs) 0 (omega (arith, h (key x), bit_eq (key x) (key x) refl))) (most_distinct key xs (λ k. omega (arith, h k)))

-- the keys themselves are counted, and are distinct, as those of the elements are
tally_map : {A : Type 0} (key : A → ℕ) (k : ℕ) (xs : List A) → tally (λ n. n) k (map key xs) ≡ tally key k xs
tally_map key k [] = refl
tally_map key k (x ∷ xs) = rw (tally_map key k xs)

pub distinct_map : {A : Type 0} (key : A → ℕ) (xs : List A) → distinct (λ n. n) (map key xs) ≡ distinct key xs
distinct_map key [] = refl
distinct_map key (x ∷ xs) = rw (tally_map key (key x) xs, distinct_map key xs)

-- the weight of an element whose key is k, and nothing for the others
abbrev pub keyed : {A : Type 0} → (A → ℕ) → ℕ → (A → ℕ) → A → ℕ
keyed key k w x = pick (eqb (key x) k) (w x) 0

-- which is nothing where none has that key
pub keyed_none : {A : Type 0} (key : A → ℕ) (k : ℕ) (w : A → ℕ) (xs : List A) → tally key k xs ≡ 0 → weigh (keyed key k w) xs ≡ 0
keyed_none key k w xs h = none_weigh (keyed key k w) xs (all_map _ _ (λ x z. go (eqb (key x) k) (w x) z) xs (weigh_zero _ xs h))
  where
    go : (o : Bool) (v : ℕ) → bit o ≡ 0 → pick o v 0 ≡ 0
    go true v z = absurd (omega arith)
    go false v z = refl

-- where no two have one key, the elements of an element's key are itself
pub keyed_each : {A : Type 0} (key : A → ℕ) (w : A → ℕ) (xs : List A) → distinct key xs ≡ true → All (λ x. weigh (keyed key (key x) w) xs ≡ w x) xs
keyed_each key w [] h = tt
keyed_each key w (x ∷ xs) h = (
  rw (eq-eqb (key x) (key x) refl) (omega (arith, keyed_none key (key x) w xs none)),
  all_map _ _ other xs (all_and _ _ xs (weigh_zero _ xs none) (keyed_each key w xs (and_right (eqb (tally key (key x) xs) 0) _ h))),
)
  where
    none : tally key (key x) xs ≡ 0
    none = eqb-true _ _ (and_left _ _ h)

    other : (y : _) → (bit (eqb (key y) (key x)) ≡ 0) × (weigh (keyed key (key y) w) xs ≡ w y) → weigh (keyed key (key y) w) (x ∷ xs) ≡ w y
    other y e = rw (ne_eqb (key x) (key y) (λ s. absurd (omega (arith, bit_eq (key y) (key x) (sym s))))) (omega (arith, e.1))
