-- The lowest unlit place by the words of the lit places, of all places and of one direction. Assumes nothing. What `Lit::lowest_unlit_in`
-- promises; the rest serves proofs inside only.
use Rattle.std.specs.Prelude.{ℕ, ◌&&◌, not}
use Rattle.std.specs.Int.Bits.{bit_or}
use Rattle.basis.specs.Search.{first_below}
use Rattle.limits.specs.Limits.{place_count}
use Rattle.lightpath.specs.Place.{direction_of, same_direction}
use Rattle.lightpath.specs.declared.Direction.{Direction}
use Rattle.lit_words.specs.Lit.{Lit, word, lit_bit}

-- the lowest unlit place of direction d below the limit, or the limit
unfoldable pub unlit_in : Lit → Direction → ℕ → ℕ
unlit_in lit d limit = first_below limit (λ p. not (lit_bit lit p) && same_direction (direction_of p) d)

-- the lowest unlit place, or 128
unfoldable pub unlit_by : Lit → ℕ
unlit_by lit = first_below place_count (λ p. not (lit_bit lit p))

-- the places of direction d as the bits of a word: 64 is even, so that the high word has the directions of the low one
unfoldable pub places_of : Direction → ℕ
places_of d = word (λ p. same_direction (direction_of p) d) 64 0

-- the words with all places of direction d
abbrev pub with_way : Lit → Direction → Lit
with_way lit d = record { low = bit_or lit.low (places_of d); high = bit_or lit.high (places_of d) }
