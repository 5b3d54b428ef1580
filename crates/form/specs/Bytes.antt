-- 01, "Saved form": numbers as bytes, highest first. Assumes nothing.
-- What `write` and `read` promise.
use Rattle.std.specs.Prelude.{ℕ, zero, suc, ◌+◌, ◌*◌, ◌/◌, ◌%◌, List, [], ◌∷◌, ◌++◌}

-- a number as so many bytes
unfoldable pub high_first : ℕ → ℕ → List ℕ
high_first zero n = []
high_first (suc zero) n = n ∷ []
high_first (suc (suc width)) n = high_first (suc width) (n / 256) ++ (n % 256 ∷ [])

-- and back: the number of some bytes, v being that of the bytes before them
unfoldable pub number_from : ℕ → List ℕ → ℕ
number_from v [] = v
number_from v (x ∷ s) = number_from (v * 256 + x) s

abbrev pub number_in : List ℕ → ℕ
number_in s = number_from 0 s
