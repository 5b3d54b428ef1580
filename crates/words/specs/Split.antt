-- The words of a line, and whether two texts are the same. Assumes nothing.
-- What `word_end` promises, and what a line of a script is read by.
use Rattle.std.specs.Prelude.{ℕ, Bool, true, false, ◌&&◌, List, [], ◌∷◌, ◌++◌, eqb}
use Rattle.basis.specs.Choice.{pick}
use Rattle.basis.specs.Search.{first_place}

-- the words of a text after the bytes w of a word that has begun; a space is the byte 32
unfoldable pub words_after : List ℕ → List ℕ → List (List ℕ)
words_after w [] = w ∷ []
words_after w (x ∷ s) = pick (eqb x 32) (w ∷ words_after [] s) (words_after (w ++ (x ∷ [])) s)

-- the words of a line, "parted by single spaces": a second space, or one at either end of the line, makes an empty word
abbrev pub words : List ℕ → List (List ℕ)
words s = words_after [] s

-- the words after one that ends here: none at the line's end, else those after the space
abbrev pub other_words : List ℕ → List (List ℕ)
other_words [] = []
other_words (x ∷ s) = words s

-- how long the word is that a text begins with
abbrev pub word_length : List ℕ → ℕ
word_length s = first_place (λ x. eqb x 32) s

-- two texts are the same
abbrev pub same_text : List ℕ → List ℕ → Bool
same_text [] [] = true
same_text [] (y ∷ t) = false
same_text (x ∷ s) [] = false
same_text (x ∷ s) (y ∷ t) = eqb x y && same_text s t
