-- The signed number that a word is: of 32 bits, −2,147,483,648 to 2,147,483,647, with `-` before its digits where it is below zero, and
-- `-0` allowed. Assumes nothing. What `read_signed` promises.
use Rattle.std.specs.Prelude.{ℕ, ◌+◌, ◌^◌, List, [], ◌∷◌, eqb, ℤ, pos, neg_ℤ, Option, Some, None}
use Rattle.basis.specs.Choice.{pick}
use Rattle.text.specs.Number.{number}

-- a number below zero
abbrev pub below : ℕ → ℤ
below n = neg_ℤ (pos n)

-- the number that a word is, with a sign
abbrev pub with_sign : (ℕ → ℤ) → Option ℕ → Option ℤ
with_sign sign (Some n) = Some (sign n)
with_sign sign None = None

-- the signed number that a word is: after `-` (the byte 45) the number that the rest is, below zero, at most 2 ^ 31;
-- else the number that the word is, below 2 ^ 31
unfoldable pub signed : List ℕ → Option ℤ
signed [] = None
signed (x ∷ s) = pick (eqb x 45) (with_sign below (number (2 ^ 31 + 1) s)) (with_sign pos (number (2 ^ 31) (x ∷ s)))
