-- The places of two pairs of words: of one or the other, and of both. Assumes nothing. What `|` and `&` of lit words promise.
use Rattle.std.specs.Int.Bits.{bit_and, bit_or}
use Rattle.lit_words.specs.declared.Lit.{Lit}

-- the places that one or the other has, and those that both have
abbrev pub either_of : Lit → Lit → Lit
either_of a b = record { low = bit_or a.low b.low; high = bit_or a.high b.high }

abbrev pub both_of : Lit → Lit → Lit
both_of a b = record { low = bit_and a.low b.low; high = bit_and a.high b.high }
