-- A number's decimal digits. Assumes nothing. What `put_number` promises.
use Rattle.std.specs.Prelude.{ℕ, zero, suc, ◌+◌, ◌/◌, ◌%◌, List, [], ◌∷◌, ◌++◌, ltb}
use Rattle.basis.specs.Choice.{pick}

-- the digits of n as bytes (0 is 48), with no leading zero; at most k + 1 of them
unfoldable pub digits_up_to : ℕ → ℕ → List ℕ
digits_up_to zero n = (48 + n % 10) ∷ []
digits_up_to (suc k) n = pick (ltb n 10) ((48 + n) ∷ []) (digits_up_to k (n / 10) ++ ((48 + n % 10) ∷ []))

-- the digits of n, of which there are at most n + 1
unfoldable pub decimal : ℕ → List ℕ
decimal n = digits_up_to n n

-- a number of 32 bits has at most ten
abbrev pub most_digits : ℕ
most_digits = 10
