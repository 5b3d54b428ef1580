-- A script: the lines of the input, run one after another. Assumes nothing.
-- What `start`, any number of `feed`s and `finish` write in all.
use Rattle.std.specs.Prelude.{ℕ, List, [], ◌∷◌, ◌++◌, eqb}
use Rattle.basis.specs.Choice.{pick}
use Rattle.desk.specs.Desk.{Desk, empty_desk, run_line}

-- bytes after the last line end are a line; where there are none, there is no line
abbrev pub last_line : List ℕ → List (List ℕ)
last_line [] = []
last_line (x ∷ w) = (x ∷ w) ∷ []

-- the lines of an input after the bytes w of a line that has begun; a line ends at the byte 10, which is no part of it
unfoldable pub lines_after : List ℕ → List ℕ → List (List ℕ)
lines_after w [] = last_line w
lines_after w (x ∷ s) = pick (eqb x 10) (w ∷ lines_after [] s) (lines_after (w ++ (x ∷ [])) s)

-- what the lines print, one after another
unfoldable pub lines_text : Desk → List (List ℕ) → List ℕ
lines_text d [] = []
lines_text d (l ∷ ls) = (run_line d l).text ++ lines_text (run_line d l).desk ls

-- what the program prints to all of its input
unfoldable pub script_text : List ℕ → List ℕ
script_text input = lines_text empty_desk (lines_after [] input)
