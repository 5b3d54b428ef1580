-- The pairs of a list. Assumes nothing.
use Prim.Native.Nat.{suc, ◌+◌, ◌*◌}
use mathlib.Core.Path.{◌≡◌, refl, ap}
use mathlib.Core.List.{List, [], ◌∷◌, ◌++◌}
use native.Mathlib.Omega.{arith}
use lib.ListN.{length, length-append}
use Rattle.basis.specs.Count.{All}
use Rattle.basis.specs.Search.{pairs_with, pairs_of}
use Rattle.basis.proofs.Bools.{all_left, all_right, all_join, all_map, all_and}

-- each element is in a relation to every later one
abbrev pub Ordered : {A : Type 0} → (A → A → Type 0) → List A → Type 0
Ordered R [] = Unit {0}
Ordered R (a ∷ l) = All (R a) l × Ordered R l

-- the front of an ordered list is ordered
pub ordered_front : {A : Type 0} (R : A → A → Type 0) (xs ys : List A) → Ordered R (xs ++ ys) → Ordered R xs
ordered_front R [] ys h = tt
ordered_front R (x ∷ xs) ys h = (all_left (R x) xs ys h.0, ordered_front R xs ys h.1)

-- so are the pairs of one element
with_all_lem : {A : Type 0} (P : A → Type 0) (R : A → A → Type 0) (a : A) (l : List A) → P a → All P l → All (R a) l
    → All (λ pr. P pr.0 × P pr.1 × R pr.0 pr.1) (pairs_with a l)
with_all_lem P R a [] pa h r = tt
with_all_lem P R a (b ∷ bs) pa h r = ((pa, h.0, r.0), with_all_lem P R a bs pa h.1 r.1)

-- so the two of every pair are, and what holds of each element holds of both
pub pairs_all : {A : Type 0} (P : A → Type 0) (R : A → A → Type 0) (l : List A) → All P l → Ordered R l
    → All (λ pr. P pr.0 × P pr.1 × R pr.0 pr.1) (pairs_of l)
pairs_all P R [] h r = tt
pairs_all P R (a ∷ l) h r = all_join _ (pairs_with a l) (pairs_of l) (with_all_lem P R a l h.0 h.1 r.0) (pairs_all P R l h.1 r.1)

-- what holds of each pair of one element holds of it with each of the list
with_each : {A : Type 0} (P : A × A → Type 0) (a : A) (l : List A) → All P (pairs_with a l) → All (λ b. P (a, b)) l
with_each P a [] h = tt
with_each P a (b ∷ bs) h = (h.0, with_each P a bs h.1)

-- what holds of each pair of a list holds of any two of its elements that are in the relation, which holds one way only
pub pairs_each : {A : Type 0} (P : A × A → Type 0) (R : A → A → Type 0) → ((a b : A) → R a b → R b a → ⊥) → (l : List A) → Ordered R l
    → All P (pairs_of l) → All (λ a. All (λ b. R a b → P (a, b)) l) l
pairs_each P R one [] o h = tt
pairs_each P R one (x ∷ l) o h = (
  (λ r. absurd (one x x r r), all_map _ _ (λ b p r. p) l (with_each P x l (all_left P (pairs_with x l) (pairs_of l) h))),
  all_map _ _ (λ a k. (λ r. absurd (one x a k.0 r), k.1)) l
      (all_and _ _ l o.0 (pairs_each P R one l o.1 (all_right P (pairs_with x l) (pairs_of l) h))),
)

-- one element has a pair with each of a list
with_length : {A : Type 0} (a : A) (l : List A) → length (pairs_with a l) ≡ length l
with_length a [] = refl
with_length a (b ∷ bs) = ap suc (with_length a bs)

-- n elements have n × (n − 1) / 2 pairs
pub pairs_length : {A : Type 0} (l : List A) → 2 * length (pairs_of l) + length l ≡ length l * length l
pairs_length [] = refl
pairs_length (a ∷ l) = omega (arith, pairs_length l, with_length a l, length-append (pairs_with a l) (pairs_of l))
