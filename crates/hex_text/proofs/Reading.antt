-- A text of digits read two at a time. Assumes nothing.
use Rattle.std.proofs.Common.{◌≡◌, ℕ, ◌+◌, ◌*◌, ◌/◌, ◌%◌, ◌<◌, ◌≤◌, List, [], ◌∷◌, ◌++◌, length, get_or, drop, length-drop, drop-cons, add-one, ap, ◌∙◌, append-nil, arith, Option, Some, None, le-ltb, lt-ltb}
use lib.Seq.{append_snoc}
use Rattle.buffer.specs.Put.{Put}
use Rattle.buffer.proofs.Put.{put_put}
use Rattle.hex_text.specs.Hex.{no_digit, value_of, byte_of, is_hex, bytes_of, Unhexed}

-- the byte of two digits, by their values
module _ (x y a b : ℕ) (e : a ≡ value_of x) (k : b ≡ value_of y) where
  pub byte_high : no_digit ≤ a → None ≡ byte_of x y
  unfolding byte_of
  byte_high h = rw (← e, le-ltb a no_digit h)

  module _ (h : a < no_digit) where
    pub byte_low : no_digit ≤ b → None ≡ byte_of x y
    unfolding byte_of
    byte_low g = rw (← e, ← k, lt-ltb a no_digit h, le-ltb b no_digit g)

    pub byte_both : b < no_digit → Some (16 * a + b) ≡ byte_of x y
    unfolding byte_of
    byte_both g = rw (← e, ← k, lt-ltb a no_digit h, lt-ltb b no_digit g)

pub ruleset bytes = (byte_high, byte_low, byte_both)

-- the text up to the rest is digits, whose bytes stand in the lent bytes
pub record Unhexing (word l0 l : List ℕ) (count : ℕ) (rest : List ℕ) : Type 0 where
  pub stand : List ℕ
  pub put : Put l0 0 stand l count
  pub left : bytes_of word ≡ stand ++ bytes_of rest
  pub good : is_hex word ≡ is_hex rest
  pub even : length word ≡ 2 * count + length rest
  pub space : length word ≤ 2 * length l0

module _ (word l0 l : List ℕ) (count : ℕ) where
  -- less than two are left: none of an even number, or a digit over
  unhex_all : (rest : List ℕ) → Unhexing word l0 l count rest → length rest < 2 → length word % 2 ≡ 0 → Unhexed word l0 l (Some count)
  unfolding is_hex bytes_of
  unhex_all [] q h v =
      let e : bytes_of word ≡ q.stand = q.left ∙ rw append-nil in
      let k : count ≡ length q.stand = omega (arith, q.put.end) in
      record { answer = rw (q.good, e) (ap Some k); left = rw e q.put.is }
  unhex_all (x ∷ rest) q h v = absurd (omega (arith, q.even))

  unhex_odd : (rest : List ℕ) → Unhexing word l0 l count rest → length rest < 2 → (length word % 2 ≡ 0 → ⊥) → Unhexed word l0 l None
  unfolding is_hex bytes_of
  unhex_odd [] q h v = absurd (omega (arith, q.even))
  unhex_odd (x ∷ []) q h v =
      let e : bytes_of word ≡ q.stand = q.left ∙ rw append-nil in
      record { answer = rw q.good; left = rw e q.put.is }
  unhex_odd (x ∷ y ∷ rest) q h v = absurd (omega arith)

  -- two that are
  module _ (x y : ℕ) (rest : List ℕ) (q : Unhexing word l0 l count (x ∷ y ∷ rest)) where
    bad : None ≡ byte_of x y → Unhexed word l0 l None
    unfolding is_hex bytes_of
    bad b =
        let left : bytes_of word ≡ q.stand = q.left ∙ rw (← b, append-nil) in
        record { answer = rw (q.good, ← b); left = rw left q.put.is }

    more : (b : ℕ) → Some b ≡ byte_of x y → (l1 : List ℕ) (next : ℕ) → Put l count (b ∷ []) l1 next → Unhexing word l0 l1 next rest
    unfolding is_hex bytes_of
    more b k l1 next p =
        record {
          stand = q.stand ++ (b ∷ []);
          put = put_put q.put p;
          left = q.left ∙ rw (← k, append_snoc);
          good = q.good ∙ rw (← k);
          even = omega (arith, q.even, p.end);
          space = q.space;
        }

-- the digits of the first i bytes are read
abbrev pub Read : List ℕ → List ℕ → List ℕ → ℕ → Type 0
Read word l0 l i = Unhexing word l0 l i (drop (2 * i) word)

module _ (word l0 l : List ℕ) (i : ℕ) (q : Read word l0 l i) where
  module _ (h : i < length word / 2) where
    apart : drop (2 * i) word ≡ get_or word (2 * i) 0 ∷ get_or word (2 * i + 1) 0 ∷ drop (2 * (i + 1)) word
    apart =
        let first : 2 * i < length word = omega arith in
        let second : 2 * i + 1 < length word = omega arith in
        let j : 2 * (i + 1) ≡ (2 * i + 1) + 1 = omega arith in
        rw (drop-cons word (2 * i) 0, ← add-one (2 * i), drop-cons word (2 * i + 1) 0, j, add-one (2 * i + 1))

    here : Unhexing word l0 l i (get_or word (2 * i) 0 ∷ get_or word (2 * i + 1) 0 ∷ drop (2 * (i + 1)) word)
    here = rw apart at q

    pub read_bad : None ≡ byte_of (get_or word (2 * i) 0) (get_or word (2 * i + 1) 0) → (r : Option ℕ) → r ≡ None → Unhexed word l0 l r
    read_bad b r k = rw k (bad word l0 l i _ _ _ here b)

    pub read_next : (b : ℕ) → Some b ≡ byte_of (get_or word (2 * i) 0) (get_or word (2 * i + 1) 0) → (l1 : List ℕ) (next : ℕ) → Put l i (b ∷ []) l1 next → Read word l0 l1 (i + 1)
    read_next b k l1 next p = let e : next ≡ i + 1 = p.end in rw e at (more word l0 l i _ _ _ here b k l1 next p)

  module _ (h : length word / 2 ≤ i) where
    pub read_all : length word % 2 ≡ 0 → Unhexed word l0 l (Some (length word / 2))
    read_all v =
        let e : length word / 2 ≡ i = omega (arith, q.even) in
        rw e (unhex_all word l0 l i _ q (omega (arith, q.even, length-drop (2 * i) word)) v)

    pub read_odd : (length word % 2 ≡ 0 → ⊥) → Unhexed word l0 l None
    read_odd v = unhex_odd word l0 l i _ q (omega (arith, q.even, length-drop (2 * i) word)) v
