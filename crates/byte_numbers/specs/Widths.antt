-- Numbers and the bytes that they fit in. Assumes nothing. What `put_number` and `number_of` ask for.
use Rattle.std.specs.Prelude.{ℕ, ◌≤◌, ◌<◌, ◌^◌}

-- a number of 32 bits takes at most four bytes
abbrev pub most_bytes : ℕ
most_bytes = 4

-- a number of so many bytes, from one to these
pub record Wide (width value : ℕ) : Type 0 where
  pub some : 1 ≤ width
  pub most : width ≤ most_bytes
  pub fits : value < 256 ^ width
