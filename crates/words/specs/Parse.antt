-- What a line leads to, word by word: which word of a list its first is, and the numbers that the others are. A line whose words do not fit
-- leads to `other`. Assumes nothing. What the promises of `requests` and `commands` are written in.
use Rattle.std.specs.Prelude.{ℕ, ◌^◌, List, [], ◌∷◌, ℤ, Option, Some, None}
use Prim.Native.String.{String}
use Rattle.basis.specs.Choice.{pick}
use Rattle.text.specs.Bytes.{bytes}
use Rattle.text.specs.Number.{number}
use Rattle.text.specs.Signed.{signed}
use Rattle.words.specs.Split.{same_text}

-- what follows from a word, by a list of words and what follows from each
abbrev pub by_word : {A : Type 0} → A → List ℕ → List (String × A) → A
by_word other w [] = other
by_word other w (k ∷ ks) = pick (same_text w (bytes k.0)) k.1 (by_word other w ks)

-- what follows from the number that a word is
abbrev pub given : {A : Type 0} → A → Option ℕ → (ℕ → A) → A
given other (Some n) f = f n
given other None f = other

-- what follows from the first word, as a number of so many bits, and the words after it; "a number too wide for its field" is none
unfoldable pub field : {A : Type 0} → A → ℕ → List (List ℕ) → (ℕ → List (List ℕ) → A) → A
field other bits [] f = other
field other bits (w ∷ ws) f = given other (number (2 ^ bits) w) (λ n. f n ws)

-- what follows from the signed number that a word is
abbrev pub given_signed : {A : Type 0} → A → Option ℤ → (ℤ → A) → A
given_signed other (Some z) f = f z
given_signed other None f = other

-- what follows from the first word, as a signed number of 32 bits, and the words after it
unfoldable pub signed_field : {A : Type 0} → A → List (List ℕ) → (ℤ → List (List ℕ) → A) → A
signed_field other [] f = other
signed_field other (w ∷ ws) f = given_signed other (signed w) (λ z. f z ws)

-- no word is left
abbrev pub at_end : {A : Type 0} → A → List (List ℕ) → A → A
at_end other [] x = x
at_end other (w ∷ ws) x = other
