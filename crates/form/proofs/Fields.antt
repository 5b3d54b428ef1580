-- What holds of a field that is read, whichever it is: readers one after the other. Assumes nothing.
use Prim.Native.Nat.{ℕ, ◌<◌}
use mathlib.Core.Path.{◌≡◌, refl, sym}
use mathlib.Core.Bool.{Bool, true, false}
use mathlib.Core.List.{List, [], ◌∷◌, ◌++◌}
use lib.Dec.{leb}
use lib.ListN.{length, take, drop, take-append-drop}
use lib.Seq.{length-take-le}
use borrow.Author.Tests.{leb-true}
use Rattle.basis.specs.Choice.{pick}
use Rattle.basis.specs.Count.{All}
use Rattle.basis.proofs.Bools.{all_left, all_right}
use Rattle.refusals.specs.declared.Refusal.{Refusal}
use Rattle.refusals.specs.declared.Refusal.TheVariants.{CutShort}
use Rattle.form.specs.Reader.{Field, got, fault, Reader, and_then, ◌unless◌, byte, bytes}

-- a fact of the value and of the bytes after it, if the field is read
abbrev pub Holds : {A : Type 0} → (A → List ℕ → Type 0) → Field A → Type 0
Holds P (got x r) = P x r
Holds P (fault n) = Unit {0}

-- a fact that follows from it holds too
holds_map : {A : Type 0} (P Q : A → List ℕ → Type 0) (f : Field A) → Holds P f → ((x : A) (r : List ℕ) → P x r → Q x r) → Holds Q f
holds_map P Q (got x r) h k = k x r h
holds_map P Q (fault n) h k = tt

-- what holds after a field, from what holds of the field
pub then_holds : {A B : Type 0} (P : A → List ℕ → Type 0) (Q : B → List ℕ → Type 0) (f : Field A) (g : A → Reader B)
    → Holds P f → ((x : A) (r : List ℕ) → P x r → Holds Q (g x r)) → Holds Q (and_then f g)
then_holds P Q (got x r) g h k = k x r h
then_holds P Q (fault n) g h k = tt

-- or whatever the field is
pub then_any : {A B : Type 0} (Q : B → List ℕ → Type 0) (f : Field A) (g : A → Reader B) → ((x : A) (r : List ℕ) → Holds Q (g x r)) → Holds Q (and_then f g)
then_any Q (got x r) g k = k x r
then_any Q (fault n) g k = tt

-- or from a test that holds
pub unless_holds : {B : Type 0} (Q : B → List ℕ → Type 0) (n : Refusal) (t : Bool) (s : List ℕ) (g : Unit {0} → Reader B)
    → (t ≡ true → Holds Q (g tt s)) → Holds Q (and_then ((n unless t) s) g)
unless_holds Q n true s g k = k refl
unless_holds Q n false s g k = tt

-- every element is a byte
abbrev pub AreBytes : List ℕ → Type 0
AreBytes s = All (λ x. x < 256) s

-- the bytes s are those that write gives for x, and then the bytes r
pub record Wrote {A : Type 0} (write : A → List ℕ) (s : List ℕ) (x : A) (r : List ℕ) : Type 0 where
  pub is : s ≡ write x ++ r
  pub front : AreBytes (write x)
  pub rest : AreBytes r

pub wrote : {A : Type 0} (write : A → List ℕ) (s : List ℕ) (x : A) (r : List ℕ) → AreBytes s → s ≡ write x ++ r → Wrote write s x r
wrote write s x r h e =
    let k : AreBytes (write x ++ r) = rw e at h in
    record { is = e; front = all_left (λ x. x < 256) (write x) r k; rest = all_right (λ x. x < 256) (write x) r k }

-- one byte, and n of them, are the first of the bytes read
pub byte_is : (s : List ℕ) → Holds (λ x r. s ≡ x ∷ r) (byte s)
byte_is [] = tt
byte_is (x ∷ s) = refl

pub bytes_are : (n : ℕ) (s : List ℕ) → Holds (λ v r. (s ≡ v ++ r) × (length v ≡ n)) (bytes n s)
bytes_are n s = go (leb n (length s)) refl
  where
    go : (t : Bool) → leb n (length s) ≡ t → Holds (λ v r. (s ≡ v ++ r) × (length v ≡ n)) (pick t (got (take n s) (drop n s)) (fault CutShort))
    go true e = (sym (take-append-drop n s), length-take-le n s (leb-true n (length s) e))
    go false e = tt

pub byte_wrote : (s : List ℕ) → AreBytes s → Holds (Wrote (λ x. x ∷ []) s) (byte s)
byte_wrote s h = holds_map _ _ (byte s) (byte_is s) (λ x r e. wrote (λ x. x ∷ []) s x r h e)

pub bytes_wrote : (n : ℕ) (s : List ℕ) → AreBytes s → Holds (λ v r. Wrote (λ v. v) s v r × (length v ≡ n)) (bytes n s)
bytes_wrote n s h = holds_map _ _ (bytes n s) (bytes_are n s) (λ v r e. (wrote (λ v. v) s v r h e.0, e.1))
