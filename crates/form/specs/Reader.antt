-- Reading bytes from left to right: a reader takes a field off the front, and `do` puts readers one after the other. Assumes nothing.
-- What `read` promises.
use Rattle.std.specs.Prelude.{ℕ, Bool, true, false, List, [], ◌∷◌, leb, length, take, drop}
use Rattle.basis.specs.Choice.{pick}
use Rattle.refusals.specs.declared.Refusal.{Refusal}
use Rattle.refusals.specs.declared.Refusal.TheVariants.{CutShort as no_30, TrailingBytes as no_32}

-- a field and the bytes after it, or why it is refused
pub data Field (A : Type 0) : Type 0 where
  got : A → List ℕ → Field A
  fault : Refusal → Field A

abbrev pub Reader : Type 0 → Type 0
Reader A = List ℕ → Field A

-- the next reader takes the bytes after a field; a refusal ends the reading
abbrev pub and_then : {A B : Type 0} → Field A → (A → Reader B) → Field B
and_then (got x s) f = f x s
and_then (fault r) f = fault r

abbrev pub ◌>>=◌ : {A B : Type 0} → Reader A → (A → Reader B) → Reader B
◌>>=◌ m f = λ s. and_then (m s) f

abbrev pub ◌>>◌ : {A B : Type 0} → Reader A → Reader B → Reader B
◌>>◌ m n = λ s. and_then (m s) (λ x. n)

-- a value, with no byte taken
abbrev pub give : {A : Type 0} → A → Reader A
give x s = got x s

-- no byte is taken; refused unless a test holds
infix 4 ◌unless◌
abbrev pub ◌unless◌ : Refusal → Bool → Reader (Unit {0})
◌unless◌ r true s = got tt s
◌unless◌ r false s = fault r

-- a field of one byte and of n; a field cut short is 30
abbrev pub byte : Reader ℕ
byte [] = fault no_30
byte (x ∷ s) = got x s

abbrev pub bytes : ℕ → Reader (List ℕ)
bytes n s = pick (leb n (length s)) (got (take n s) (drop n s)) (fault no_30)

-- no byte is left; bytes after the last record are 32
abbrev pub end : Reader (Unit {0})
end [] = got tt []
end (x ∷ s) = fault no_32
