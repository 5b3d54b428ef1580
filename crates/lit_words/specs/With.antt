-- The words of the lit places with one place more. Assumes nothing. What `Lit::with` asks for and promises.
use Rattle.std.specs.Prelude.{ℕ, ◌+◌, ◌-◌, ◌^◌, ◌≤◌, ◌<◌, ltb}
use Rattle.basis.specs.Choice.{pick}
use Rattle.limits.specs.Limits.{place_count}
use Rattle.lit_words.specs.Lit.{Lit}

-- the words with one place more, p, which they do not have yet: its bit is added
abbrev pub with_place : Lit → ℕ → Lit
with_place l p = pick (ltb p 64) (record { low = l.low + 2 ^ p; high = l.high }) (record { low = l.low; high = l.high + 2 ^ (p - 64) })

-- the word of place p has room for its bit
pub record RoomFor (l : Lit) (p : ℕ) : Type 0 where
  pub below : p < place_count
  pub low : p < 64 → l.low + 2 ^ p < 2 ^ 64
  pub high : 64 ≤ p → l.high + 2 ^ (p - 64) < 2 ^ 64
