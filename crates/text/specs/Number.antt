-- The number that a word is: "leading zeros allowed", and one that is too wide for its field is none. Assumes nothing.
-- What `read_number` promises.
use Rattle.std.specs.Prelude.{ℕ, ◌+◌, ◌-◌, ◌*◌, Bool, ◌&&◌, List, [], ◌∷◌, leb, ltb, Option, Some, None}
use Rattle.basis.specs.Choice.{pick}

-- a byte that is a digit: 0 is 48 and 9 is 57
abbrev pub is_digit : ℕ → Bool
is_digit x = leb 48 x && leb x 57

-- the number that the bytes make after digits of the value v: digits alone, and in all a value below the limit
unfoldable pub number_after : ℕ → ℕ → List ℕ → Option ℕ
number_after limit v [] = pick (ltb v limit) (Some v) None
number_after limit v (x ∷ s) = pick (is_digit x) (number_after limit (v * 10 + (x - 48)) s) None

-- the number that a word is: at least one digit
unfoldable pub number : ℕ → List ℕ → Option ℕ
number limit [] = None
number limit (x ∷ s) = number_after limit 0 (x ∷ s)
