-- Choosing by a test. Assumes nothing. What every promise means by these words.
use Rattle.std.specs.Prelude.{ℕ, Bool, true, false}

-- the first of two where the test holds, else the second
abbrev pub pick : {A : Type 0} → Bool → A → A → A
pick true x y = x
pick false x y = y

-- 1 where the test holds, else 0
abbrev pub bit : Bool → ℕ
bit true = 1
bit false = 0
