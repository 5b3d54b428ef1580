-- The map of the lit places, by its bytes. Assumes nothing.
use Prim.Native.Nat.{ℕ, zero, suc, ◌+◌, ◌*◌, ◌/◌, ◌%◌, ◌<◌}
use mathlib.Core.Path.{◌≡◌, refl, ap, ◌∙◌}
use mathlib.Core.Bool.{Bool}
use mathlib.Core.List.{List, [], ◌∷◌}
use native.Mathlib.Nat.{le_of_suc-le-suc, not-suc-le-zero}
use native.Mathlib.Omega.{arith}
use lib.ListN.{length, get_or}
use Rattle.basis.specs.Count.{All}
use Rattle.limits.specs.Limits.{place_count}
use Rattle.lit_words.specs.Lit.{bit_of, word}
use Rattle.lit_words.proofs.Bits.{word_bit, word_of}
use Rattle.form.specs.Form.{map_bytes, map_width}
use Rattle.form.specs.Reading.{map_bit}

-- the map has as many bytes as it is asked for
pub map_long : (lit : ℕ → Bool) (k p : ℕ) → length (map_bytes lit k p) ≡ k
unfolding map_bytes
map_long lit zero p = refl
map_long lit (suc k) p = ap suc (map_long lit k (8 + p))

-- byte j is the word of its eight places
map_byte : (lit : ℕ → Bool) (k p j : ℕ) → j < k → get_or (map_bytes lit k p) j 0 ≡ word lit 8 (8 * j + p)
unfolding map_bytes
map_byte lit zero p j h = absurd (not-suc-le-zero h)
map_byte lit (suc k) p zero h = let e : 8 * 0 + p ≡ p = omega arith in rw e
map_byte lit (suc k) p (suc j) h = let e : 8 * j + (8 + p) ≡ 8 * suc j + p = omega arith in map_byte lit k (8 + p) j (le_of_suc-le-suc h) ∙ rw e

-- the map that is written says which places are lit
pub map_says : (lit : ℕ → Bool) (p : ℕ) → p < place_count → map_bit (map_bytes lit map_width 0) p ≡ lit p
unfolding map_bit
map_says lit p h =
    let e : 8 * (p / 8) + 0 + p % 8 ≡ p = omega arith in
    rw (map_byte lit map_width 0 (p / 8) (omega arith), word_bit lit 8 (8 * (p / 8) + 0) (p % 8) (omega arith), e)

-- the first byte is the first eight places, and the others follow
low_bits : (x : ℕ) (m : List ℕ) (b : ℕ) → b < 8 → map_bit (x ∷ m) b ≡ bit_of x b
unfolding map_bit
low_bits x m b h =
    let p : b / 8 ≡ 0 = omega arith in
    let q : b % 8 ≡ b = omega arith in
    rw (p, q)

up_bits : (x : ℕ) (m : List ℕ) (j : ℕ) → map_bit (x ∷ m) (8 + j) ≡ map_bit m j
unfolding map_bit
up_bits x m j =
    let p : (8 + j) / 8 ≡ suc (j / 8) = omega arith in
    let q : (8 + j) % 8 ≡ j % 8 = omega arith in
    rw (p, q)

-- a map is the one that is written of what it says
pub map_is : (lit : ℕ → Bool) (m : List ℕ) (p : ℕ) → All (λ x. x < 256) m → ((j : ℕ) → j < 8 * length m → lit (p + j) ≡ map_bit m j) → map_bytes lit (length m) p ≡ m
unfolding map_bytes
map_is lit [] p h e = refl
map_is lit (x ∷ m) p h e =
    let w : word lit 8 p ≡ x = word_of lit 8 p x h.0 (λ b l. e b (omega arith) ∙ low_bits x m b l) in
    let t = map_is lit m (8 + p) h.1 (λ j l. let g : 8 + p + j ≡ p + (8 + j) = omega arith in rw g (e (8 + j) (omega arith) ∙ up_bits x m j)) in
    rw (w, t)
