-- Tests, and facts of every element. Assumes nothing.
use Prim.Native.Nat.{ℕ, suc}
use mathlib.Core.Path.{◌≡◌, refl, sym, ◌∙◌}
use mathlib.Core.Logic.{◌⊎◌, inl, inr}
use mathlib.Core.Bool.{Bool, true, false, ◌&&◌, ◌||◌, not, false≢true}
pub use mathlib.Core.Bool.{and-false}
use mathlib.Core.List.{List, [], ◌∷◌, ◌++◌}
use native.Mathlib.Omega.{arith}
use lib.Dec.{eqb, leb, ltb, leb-suc-suc}
use mir.Val.{bool_byte}
use borrow.Author.Tests.{leb-true, leb-false, lt-ltb, le-ltb, eq-eqb, ne_eqb}
use Rattle.basis.specs.Choice.{bit}
use Rattle.basis.specs.Count.{All}

-- the first of two tests passes where both do
pub and_left : (a b : Bool) → (a && b) ≡ true → a ≡ true
and_left true b e = refl
and_left false b e = e

-- and so does the second
pub and_right : (a b : Bool) → (a && b) ≡ true → b ≡ true
and_right true b e = e
and_right false b e = cc

-- both pass where each does
pub and_both : (a b : Bool) → a ≡ true → b ≡ true → (a && b) ≡ true
and_both a b p q = rw (p, q)

-- of two tests of which one passes, the first does or the second
pub or_true : (a b : Bool) → (a || b) ≡ true → (a ≡ true) ⊎ (b ≡ true)
or_true true b e = inl refl
or_true false b e = inr e

-- and where none passes each fails
pub or_false : (a b : Bool) → (a || b) ≡ false → (a ≡ false) × (b ≡ false)
or_false true b e = ((cc), (cc))
or_false false b e = (refl, e)

-- two tests do not both pass where one of them fails
pub not_both : (a b : Bool) → not (a && b) ≡ (not a || not b)
not_both true b = refl
not_both false b = refl

-- a test that cannot pass fails
pub fails : (b : Bool) → (b ≡ true → ⊥) → false ≡ b
fails true h = absurd (h refl)
fails false h = refl

-- two tests of which each passes where the other does are one
pub same_test : (a b : Bool) → (a ≡ true → b ≡ true) → (b ≡ true → a ≡ true) → a ≡ b
same_test true b f g = sym (f refl)
same_test false b f g = fails b (λ e. false≢true (g e))

-- a test that weighs nothing where it fails passes
pub bit_passes : (o : Bool) → bit (not o) ≡ 0 → o ≡ true
bit_passes true h = refl
bit_passes false h = absurd (omega arith)

-- not at most is above
pub not_leb : (a b : ℕ) → not (leb a b) ≡ ltb b a
not_leb a b = go (leb a b) refl
  where
    go : (o : Bool) → leb a b ≡ o → not o ≡ ltb b a
    go true e = sym (le-ltb b a (leb-true a b e))
    go false e = sym (lt-ltb b a (leb-false a b e))

-- not below is at least
pub not_ltb : (a b : ℕ) → not (ltb a b) ≡ leb b a
not_ltb a b = not_leb (suc a) b ∙ leb-suc-suc b a

-- a test cast to a number
pub byte_bit : (r : Bool) → bool_byte r ≡ bit r
byte_bit true = refl
byte_bit false = refl

-- an equality that holds counts 1
pub bit_eq : (m n : ℕ) → m ≡ n → bit (eqb m n) ≡ 1
bit_eq m n e = rw (eq-eqb m n e)

-- and one that does not, 0
pub bit_ne : (m n : ℕ) → (m ≡ n → ⊥) → bit (eqb m n) ≡ 0
bit_ne m n h = rw (ne_eqb m n h)

-- what holds of two lists joined holds of the first
pub all_left : {A : Type 0} (P : A → Type 0) (xs ys : List A) → All P (xs ++ ys) → All P xs
all_left P [] ys h = tt
all_left P (x ∷ xs) ys h = (h.0, all_left P xs ys h.1)

-- and of the second
pub all_right : {A : Type 0} (P : A → Type 0) (xs ys : List A) → All P (xs ++ ys) → All P ys
all_right P [] ys h = h
all_right P (x ∷ xs) ys h = all_right P xs ys h.1

-- what holds of both holds of them joined
pub all_join : {A : Type 0} (P : A → Type 0) (xs ys : List A) → All P xs → All P ys → All P (xs ++ ys)
all_join P [] ys h k = k
all_join P (x ∷ xs) ys h k = (h.0, all_join P xs ys h.1 k)

-- a fact that follows from another of each element
pub all_map : {A : Type 0} (P Q : A → Type 0) → ((x : A) → P x → Q x) → (xs : List A) → All P xs → All Q xs
all_map P Q f [] h = tt
all_map P Q f (x ∷ xs) h = (f x h.0, all_map P Q f xs h.1)

-- two facts of each element are one
pub all_and : {A : Type 0} (P Q : A → Type 0) (xs : List A) → All P xs → All Q xs → All (λ x. P x × Q x) xs
all_and P Q [] h k = tt
all_and P Q (x ∷ xs) h k = ((h.0, k.0), all_and P Q xs h.1 k.1)

-- a fact for every b of each element is one of each element for every b
pub all_each : {A B : Type 0} (P : B → A → Type 0) (xs : List A) → ((b : B) → All (P b) xs) → All (λ x. (b : B) → P b x) xs
all_each P [] h = tt
all_each P (x ∷ xs) h = (λ b. (h b).0, all_each P xs (λ b. (h b).1))
