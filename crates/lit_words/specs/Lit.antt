-- 01, "Saved form": the map says which places are lit, two 64-bit words. Assumes nothing.
-- What the calls on the lit words promise.
use Rattle.std.specs.Prelude.{ℕ, zero, suc, ◌+◌, ◌-◌, ◌*◌, ◌/◌, ◌%◌, ◌^◌, Bool, ◌||◌, not, eqb, ltb}
use Rattle.basis.specs.Choice.{pick, bit}
use Rattle.basis.specs.Count.{count_below}
use Rattle.basis.specs.Search.{every_below}
use Rattle.limits.specs.Limits.{place_count}
pub use Rattle.lit_words.specs.declared.Lit.{Lit}

-- bit b of w, 0 the lowest
unfoldable pub bit_of : ℕ → ℕ → Bool
bit_of w b = eqb (w / 2 ^ b % 2) 1

-- the word whose k lowest bits are f at the k numbers from i on
unfoldable pub word : (ℕ → Bool) → ℕ → ℕ → ℕ
word f zero i = 0
word f (suc k) i = word f k (suc i) * 2 + bit (f i)

-- whether place p is lit, by the words: bit p of low, or bit p − 64 of high
unfoldable pub lit_bit : Lit → ℕ → Bool
lit_bit l p = pick (ltb p 64) (bit_of l.low p) (bit_of l.high (p - 64))

-- how many places are lit, by the words
unfoldable pub ones_of : Lit → ℕ
ones_of lit = count_below place_count (lit_bit lit)

-- no place of the 128 from the limit on is lit
unfoldable pub none_lit_from : ℕ → (ℕ → Bool) → Bool
none_lit_from limit lit = every_below place_count (λ p. ltb p limit || not (lit p))

-- the words of the places that pass a test
abbrev pub words_of : (ℕ → Bool) → Lit
words_of f = record { low = word f 64 0; high = word f 64 64 }
