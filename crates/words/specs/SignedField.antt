-- What reading the next word of a line as a signed number finds. Assumes nothing.
-- What `read_signed_field` promises.
use Rattle.std.specs.Prelude.{ℕ, ◌≡◌, List, ◌∷◌, ℤ, drop, Option, Some, None}
use Rattle.text.specs.Signed.{signed}
use Rattle.words.specs.Split.{other_words}

-- in the line b the word after the one that ends at position at is the signed number z, and ends at position next
pub record NextSigned (b : List ℕ) (at : ℕ) (z : ℤ) (next : ℕ) : Type 0 where
  pub word : List ℕ
  pub is : other_words (drop at b) ≡ word ∷ other_words (drop next b)
  pub value : signed word ≡ Some z

-- a word that is read is so; where none is read, the next word, if there is one, is no signed number
abbrev pub SignedFieldAt : List ℕ → ℕ → Option (ℤ × ℕ) → Type 0
SignedFieldAt b at (Some r) = NextSigned b at r.0 r.1
SignedFieldAt b at None = ((w : List ℕ) (ws : List (List ℕ)) → other_words (drop at b) ≡ w ∷ ws → signed w ≡ None)
