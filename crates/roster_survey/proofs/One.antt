-- The words of one place, by a shift and a product: which word has its bit is a factor of 0 or 1. Assumes nothing.
use Prim.Native.Nat.{ℕ, ◌-◌, ◌*◌, ◌/◌, ◌%◌, ◌^◌, ◌≤◌, ◌<◌}
use mathlib.Core.Path.{◌≡◌}
use mathlib.Core.Logic.{◌⊎◌, inl, inr}
use native.Mathlib.Nat.{mul-zero, mul-one}
use native.Mathlib.Decide.{dec_lt}
use native.Mathlib.Omega.{arith}
use mir.Syntax.{w64}
use mir.Val.{Fits}
use borrow.Author.Tests.{lt-ltb, le-ltb}
use Rattle.limits.specs.Limits.{place_count}
use Rattle.lit_words.specs.declared.Lit.{Lit}
use Rattle.lit_words.proofs.Bits.{shifted}
use Rattle.roster_survey.specs.Pass.{one_place}

-- the bit of a place in its word, as it is shifted
abbrev bit_at : ℕ → ℕ
bit_at p = 1 * 2 ^ (p % 64) % 2 ^ 64

words : (a b c d : ℕ) → a ≡ c → b ≡ d → ◌≡◌ {A = Lit} (record { low = a; high = b }) (record { low = c; high = d })
words a b c d e f = λ i. record { low = e i; high = f i }

module _ (p : ℕ) (l : p < place_count) where
  -- the factor takes the bit away or leaves it
  factor : Dec (p < 64) → (bit_at p * (p / 64) ≡ 0) ⊎ (bit_at p * (p / 64) ≡ bit_at p)
  factor (yes k) = let z : p / 64 ≡ 0 = omega arith in inl (rw z (mul-zero (bit_at p)))
  factor (no n) = let o : p / 64 ≡ 1 = omega arith in inr (rw o (mul-one (bit_at p)))

  pub one_fits : Fits w64 (bit_at p * (p / 64))
  one_fits = go (factor (dec_lt p 64))
    where
      go : (bit_at p * (p / 64) ≡ 0) ⊎ (bit_at p * (p / 64) ≡ bit_at p) → Fits w64 (bit_at p * (p / 64))
      go (inl e) = record { fits = omega (arith, e) }
      go (inr e) = record { fits = omega (arith, e) }

  pub one_within : bit_at p * (p / 64) ≤ bit_at p
  one_within = go (factor (dec_lt p 64))
    where
      go : (bit_at p * (p / 64) ≡ 0) ⊎ (bit_at p * (p / 64) ≡ bit_at p) → bit_at p * (p / 64) ≤ bit_at p
      go (inl e) = omega (arith, e)
      go (inr e) = omega (arith, e)

  pub one_words : record { low = bit_at p - bit_at p * (p / 64); high = bit_at p * (p / 64) } ≡ one_place p
  one_words = go (dec_lt p 64)
    where
      go : Dec (p < 64) → record { low = bit_at p - bit_at p * (p / 64); high = bit_at p * (p / 64) } ≡ one_place p
      go (yes k) =
          let z : p / 64 ≡ 0 = omega arith in
          let m : p % 64 ≡ p = omega arith in
          rw (lt-ltb p 64 k, z, m, mul-zero (1 * 2 ^ p % 2 ^ 64), shifted p k) (words _ _ _ _ (omega arith) (omega arith))
      go (no n) =
          let o : p / 64 ≡ 1 = omega arith in
          let m : p % 64 ≡ p - 64 = omega arith in
          rw (le-ltb p 64 (omega arith), o, m, mul-one (1 * 2 ^ (p - 64) % 2 ^ 64), shifted (p - 64) (omega arith)) (words _ _ _ _ (omega arith) (omega arith))

-- for `search (rules, one)`
pub ruleset one = (one_fits, one_within, one_words)
