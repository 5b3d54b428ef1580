-- A word written, and the two words of the map. Assumes nothing.
use Prim.Native.Nat.{ℕ, zero, suc, ◌+◌, ◌*◌, ◌/◌, ◌%◌}
use mathlib.Core.Path.{◌≡◌, refl, sym, ◌∙◌}
use mathlib.Core.Bool.{Bool}
use mathlib.Core.List.{List, [], ◌∷◌, ◌++◌}
use native.Mathlib.Omega.{arith}
use mir.Syntax.{w64}
use Rattle.std.specs.Int.{to_le_bytes}
use Rattle.lit_words.specs.declared.Lit.{Lit}
use Rattle.lit_words.specs.Lit.{word, words_of}
use Rattle.lit_words.proofs.Bits.{word_lt, low_byte}
use Rattle.buffer.specs.Put.{Room, Put}
use Rattle.buffer.proofs.Chain.{Putting, start, first, then, done}
use Rattle.form.specs.Form.{map_bytes, map_width}
use Rattle.byte_numbers.specs.MapWords.{low_first, words_bytes}

-- the bytes of a word
eight_are : (w : ℕ) → to_le_bytes w64 w ≡ low_first 8 w
unfolding low_first
eight_are w =
    let b : w / 256 / 256 ≡ w / 65536 = omega arith in
    let d : w / 65536 / 256 ≡ w / 16777216 = omega arith in
    let e : w / 16777216 / 256 ≡ w / 4294967296 = omega arith in
    let f : w / 4294967296 / 256 ≡ w / 1099511627776 = omega arith in
    let g : w / 1099511627776 / 256 ≡ w / 281474976710656 = omega arith in
    let h : w / 281474976710656 / 256 ≡ w / 72057594037927936 = omega arith in
    rw (b, d, e, f, g, h)

module _ (w : ℕ) (v : List ℕ) (e : v ≡ to_le_bytes w64 w) (l : List ℕ) (i : ℕ) where
  pub word_room : Room l i (low_first 8 w) → Room l i v
  word_room h = rw (e, eight_are w) h

  -- the position after them
  pub word_end : (l1 : List ℕ) (n : ℕ) → Put l i v l1 n → n ≡ i + 8
  unfolding low_first
  word_end l1 n p = let q : Put l i (low_first 8 w) l1 n = rw (e, eight_are w) at p in q.end

  pub word_put : (l1 : List ℕ) (n m : ℕ) → Put l i v l1 n → m ≡ i + 8 → Put l i (low_first 8 w) l1 m
  word_put l1 n m p h = let k : m ≡ n = h ∙ sym (word_end l1 n p) in rw k (rw (e, eight_are w) at p)

pub ruleset wording = (word_room, word_end, word_put)

-- the two words, the low one first
module _ (lit : Lit) (l : List ℕ) (i : ℕ) (h : Room l i (words_bytes lit)) where
  words_begun : Putting l i (words_bytes lit) l i (low_first 8 lit.low) (low_first 8 lit.high ∷ [])
  unfolding words_bytes
  words_begun = start _ _ refl h

  pub low_word_room : Room l i (low_first 8 lit.low)
  low_word_room = first words_begun

  module _ (l1 : List ℕ) (n1 : ℕ) (q1 : Put l i (low_first 8 lit.low) l1 n1) where
    pub high_word_room : Room l1 n1 (low_first 8 lit.high)
    high_word_room = first (then q1 words_begun)

    pub words_put : (l2 : List ℕ) (n2 : ℕ) → Put l1 n1 (low_first 8 lit.high) l2 n2 → Put l i (words_bytes lit) l2 n2
    words_put l2 n2 q2 = done q2 (then q1 words_begun)

pub ruleset words_rules = (low_word_room, high_word_room, words_put)

-- the map is the bytes of the words
map_word : (f : ℕ → Bool) (k p : ℕ) → map_bytes f k p ≡ low_first k (word f (8 * k) p)
unfolding map_bytes low_first
map_word f zero p = refl
map_word f (suc k) p =
    let e : 8 * suc k ≡ 8 + 8 * k = omega arith in
    let l = word_lt f 8 p in
    let m : word f (8 + 8 * k) p % 256 ≡ word f 8 p = omega (arith, low_byte f (8 * k) p) in
    let d : word f (8 + 8 * k) p / 256 ≡ word f (8 * k) (8 + p) = omega (arith, low_byte f (8 * k) p) in
    rw (e, m, d, map_word f k (8 + p))

map_halves : (f : ℕ → Bool) → map_bytes f map_width 0 ≡ map_bytes f 8 0 ++ map_bytes f 8 64
unfolding map_bytes
map_halves f = refl

-- and the words of the places that pass a test are the map of these
pub words_map : (f : ℕ → Bool) → words_bytes (words_of f) ≡ map_bytes f map_width 0
unfolding words_bytes
words_map f = rw (map_halves f, map_word f 8 0, map_word f 8 64)
