-- The map read as two words of 64 places. Assumes nothing.
use Prim.Native.Nat.{ℕ, ◌+◌, ◌-◌, ◌*◌, ◌/◌, ◌%◌, ◌^◌, ◌≤◌, ◌<◌}
use mathlib.Core.Path.{◌≡◌, refl, sym, ◌∙◌}
use mathlib.Core.List.{List}
use native.Mathlib.Nat.{add-zero}
use native.Mathlib.Omega.{arith}
use lib.ListN.{get_or, take, drop}
use lib.Pow.{pow_mono}
use lib.Seq.{get_or-take, get_or-drop}
use Rattle.lit_words.specs.Lit.{word}
use Rattle.lit_words.proofs.Bits.{word_lt, word_of, low_byte}
use Rattle.form.specs.Reading.{map_bit}

-- byte q of the map is the word of its eight places
byte_word : (m : List ℕ) (q : ℕ) → get_or m q 0 < 256 → word (map_bit m) 8 (8 * q) ≡ get_or m q 0
unfolding map_bit
byte_word m q h =
    word_of (map_bit m) 8 (8 * q) (get_or m q 0) h
    (λ b l.
    let d : (8 * q + b) / 8 ≡ q = omega arith in
    let r : (8 * q + b) % 8 ≡ b = omega arith in
    rw (d, r))

-- the bytes from first + left on are in w, of the map at start of b
pub record Gathered (b : List ℕ) (start first left w : ℕ) : Type 0 where
  pub is : w ≡ word (map_bit (take 16 (drop start b))) (8 * (8 - left)) (8 * (first + left))

module _ (b : List ℕ) (start first : ℕ) where
  pub gathered_none : Gathered b start first 8 0
  unfolding word
  gathered_none = record { is = refl }

  pub gathered_all : (left w : ℕ) → Gathered b start first left w → left ≤ 0 → w ≡ word (map_bit (take 16 (drop start b))) 64 (8 * first)
  gathered_all left w q h = let e : left ≡ 0 = omega arith in q.is ∙ rw (e, add-zero)

  map_byte : (j : ℕ) → first + j < 16 → get_or (take 16 (drop start b)) (first + j) 0 ≡ get_or b (start + first + j) 0
  map_byte j h =
      let e : start + (first + j) ≡ start + first + j = omega arith in
      get_or-take 16 (drop start b) (first + j) 0 h ∙ get_or-drop start b (first + j) 0 ∙ rw e

  module _ (left w : ℕ) (q : Gathered b start first left w) (h : 0 < left) where
    pub gathered_fits : w < 2 ^ 56
    gathered_fits =
        let k : 8 * (8 - left) ≤ 56 = omega arith in
        omega (arith, q.is, word_lt (map_bit (take 16 (drop start b))) (8 * (8 - left)) (8 * (first + left)), pow_mono k)

    pub gathered_next : (v : ℕ) → left ≤ 8 → first ≤ 8 → (v ≡ w * 256 + get_or b (start + first + (left - 1)) 0) × (get_or b (start + first + (left - 1)) 0 < 256)
        → Gathered b start first (left - 1) v
    gathered_next v l f e =
        let m : List ℕ = take 16 (drop start b) in
        let i : ℕ = first + (left - 1) in
        let x : ℕ = get_or b (start + first + (left - 1)) 0 in
        let z : get_or m i 0 ≡ x = map_byte (left - 1) (omega arith) in
        let y : word (map_bit m) 8 (8 * i) ≡ x = byte_word m i (rw z e.1) ∙ z in
        let a : 8 * (8 - (left - 1)) ≡ 8 + 8 * (8 - left) = omega arith in
        let c : 8 + 8 * i ≡ 8 * (first + left) = omega arith in
        record { is = e.0 ∙ sym (rw a (low_byte (map_bit m) (8 * (8 - left)) (8 * i) ∙ rw (c, y, ← q.is))) }

pub ruleset gathered = (gathered_none, gathered_fits, gathered_next, gathered_all)
