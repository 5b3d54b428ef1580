-- A grid number within the plans, none so far from zero that a product wraps; and a whole number of spacings. Assumes nothing. Serves
-- proofs inside only.
use Rattle.std.specs.Prelude.{ℕ, ◌≤◌, Bool, eqb, ℤ, pos, neg_ℤ, nat_abs, ◌≤ℤ◌}
use Rattle.std.specs.Int.Signed.{rem_z}

pub record OnGrid (s : ℕ) (n : ℤ) : Type 0 where
  pub narrow : s ≤ 1000
  pub low : neg_ℤ (pos 200) ≤ℤ n
  pub high : n ≤ℤ pos 263

-- of d divided by s nothing is left over
abbrev pub is_whole : ℤ → ℕ → Bool
is_whole d s = eqb (nat_abs (rem_z d (pos s))) 0
