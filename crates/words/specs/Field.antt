-- What reading the next word of a line finds. Assumes nothing.
-- What `next_word` and `read_field` promise.
use Rattle.std.specs.Prelude.{ℕ, ◌+◌, ◌≤◌, ◌<◌, ◌≡◌, List, ◌∷◌, length, drop, Option, Some, None}
use Rattle.text.specs.Number.{number}
use Rattle.words.specs.Split.{other_words}

-- in the line b the word after the one that ends at position at is this, and ends at position next
pub record NextWord (b : List ℕ) (at : ℕ) (word : List ℕ) (next : ℕ) : Type 0 where
  pub is : other_words (drop at b) ≡ word ∷ other_words (drop next b)
  pub ends : next ≡ at + 1 + length word
  pub within : next ≤ length b

-- in the line b the word after the one that ends at position at is the number n, and ends at position next
pub record Next (limit : ℕ) (b : List ℕ) (at n next : ℕ) : Type 0 where
  pub word : List ℕ
  pub is : other_words (drop at b) ≡ word ∷ other_words (drop next b)
  pub value : number limit word ≡ Some n
  pub small : n < limit
  pub ahead : at + 2 ≤ next
  pub within : next ≤ length b

-- a word that is read is so; where none is read, the next word, if there is one, is no number below the limit
abbrev pub FieldAt : ℕ → List ℕ → ℕ → Option (ℕ × ℕ) → Type 0
FieldAt limit b at (Some r) = Next limit b at r.0 r.1
FieldAt limit b at None = ((w : List ℕ) (ws : List (List ℕ)) → other_words (drop at b) ≡ w ∷ ws → number limit w ≡ None)
