-- The words of a line with numbers put in. Assumes nothing. What `put_filled` promises, and
-- what the rooms of printed lines are made of.
use Rattle.std.specs.Prelude.{ℕ, ◌+◌, List, [], ◌∷◌, ◌++◌, eqb}
use Rattle.basis.specs.Choice.{pick}
use Rattle.text.specs.Decimal.{decimal, most_digits}

-- the words with a number in place of each `#` (the byte 35): the first, the second, the third, and the fourth at any after them
unfoldable pub filled : List ℕ → ℕ → ℕ → ℕ → ℕ → List ℕ
filled [] a b c d = []
filled (x ∷ words) a b c d = pick (eqb x 35) (decimal a ++ filled words b c d d) (x ∷ filled words a b c d)

-- the most bytes that they take
abbrev pub filled_room : List ℕ → ℕ
filled_room [] = 0
filled_room (x ∷ words) = pick (eqb x 35) most_digits 1 + filled_room words
