-- Bytes as hexadecimal digits 0 to 9, a to f, two to a byte with the higher first, and back. Assumes nothing.
-- What `put_hex` and `read_hex` promise.
use Rattle.std.specs.Prelude.{◌≡◌, ℕ, ◌+◌, ◌-◌, ◌*◌, ◌/◌, ◌%◌, Bool, true, false, ◌&&◌, List, [], ◌∷◌, ◌++◌, length, nat_le, nat_lt, Option, Some, None}
use Rattle.std.specs.Option.{is_some}
use Rattle.std.proofs.lemmas.List.Edits.{sets}
use Rattle.basis.specs.Choice.{pick}

-- the digit of a value below 16: `0` is the byte 48, `a` is 97
abbrev pub digit_of : ℕ → ℕ
digit_of v = pick (nat_lt v 10) (48 + v) (87 + v)

-- the two digits of a byte
unfoldable pub pair_of : ℕ → List ℕ
pair_of x = digit_of (x / 16) ∷ digit_of (x % 16) ∷ []

-- the digits of some bytes
unfoldable pub hex_of : List ℕ → List ℕ
hex_of [] = []
hex_of (x ∷ s) = pair_of x ++ hex_of s

-- above every digit's value
abbrev pub no_digit : ℕ
no_digit = 16

-- the value of a digit that is a letter
abbrev pub letter_value : ℕ → ℕ
letter_value x = pick (nat_le 97 x && nat_le x 102) (x - 87) no_digit

-- the value of a digit; `no_digit` of any other byte
unfoldable pub value_of : ℕ → ℕ
value_of x = pick (nat_le 48 x && nat_le x 57) (x - 48) (letter_value x)

-- the byte of two digits; none where one of them is none
unfoldable pub byte_of : ℕ → ℕ → Option ℕ
byte_of x y = pick (nat_lt (value_of x) no_digit && nat_lt (value_of y) no_digit) (Some (16 * value_of x + value_of y)) None

-- a text is digits, an even number of them
unfoldable pub is_hex : List ℕ → Bool
is_hex [] = true
is_hex (x ∷ []) = false
is_hex (x ∷ y ∷ s) = is_some (byte_of x y) && is_hex s

-- a byte and those after it, or none
abbrev pub bytes_from : Option ℕ → List ℕ → List ℕ
bytes_from (Some b) s = b ∷ s
bytes_from None s = []

-- the bytes that the digits of a text are, up to the first two that are no byte's
unfoldable pub bytes_of : List ℕ → List ℕ
bytes_of [] = []
bytes_of (x ∷ []) = []
bytes_of (x ∷ y ∷ s) = bytes_from (byte_of x y) (bytes_of s)

-- how many bytes a text is
abbrev pub digits_of : List ℕ → Option ℕ
digits_of s = pick (is_hex s) (Some (length (bytes_of s))) None

-- a text was read into the lent bytes l: its bytes stand at their start
pub record Unhexed (word l l' : List ℕ) (r : Option ℕ) : Type 0 where
  pub answer : r ≡ digits_of word
  pub left : l' ≡ sets l 0 (bytes_of word)
