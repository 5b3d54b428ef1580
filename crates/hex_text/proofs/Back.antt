-- There and back: the digits of bytes are read as these bytes, and a text of digits is what its bytes are written as. Assumes nothing.
use Rattle.std.proofs.Common.{◌≡◌, ℕ, ◌+◌, ◌-◌, ◌*◌, ◌/◌, ◌%◌, ◌<◌, ◌≤◌, Bool, true, false, ◌&&◌, ltb, leb, List, [], ◌∷◌, refl, ap, Option, Some, None, arith, ltb-false, ltb-true, le-ltb, lt-ltb, le-leb, leb-true}
use borrow.Author.Tests.{lt-leb}
use Rattle.basis.specs.Count.{All}
use Rattle.basis.proofs.Bools.{and_left, and_right, and-false}
use Rattle.hex_text.specs.Hex.{digit_of, pair_of, hex_of, no_digit, value_of, byte_of, is_hex, bytes_of}

-- the value of the digit of a value
value_digit : (v : ℕ) → v < 16 → value_of (digit_of v) ≡ v
unfolding value_of
value_digit v h = go (ltb v 10) refl
  where
    go : (t : Bool) → ltb v 10 ≡ t → value_of (digit_of v) ≡ v
    go true e =
        let l : v < 10 = ltb-true v 10 e in
        rw (e, le-leb 48 (48 + v) (omega arith), le-leb (48 + v) 57 (omega arith)) (omega arith)
    go false e =
        let l : 10 ≤ v = ltb-false v 10 e in
        rw (e, lt-leb (87 + v) 57 (omega arith), and-false, le-leb 97 (87 + v) (omega arith), le-leb (87 + v) 102 (omega arith)) (omega arith)

-- the byte of the digits of a byte
byte_pair : (x : ℕ) → x < 256 → byte_of (digit_of (x / 16)) (digit_of (x % 16)) ≡ Some x
unfolding byte_of
byte_pair x h =
    let a : x / no_digit < no_digit = omega arith in
    let b : x % no_digit < no_digit = omega arith in
    let m : 16 * (x / 16) + x % 16 ≡ x = omega arith in
    rw (value_digit (x / 16) a, value_digit (x % 16) b, lt-ltb (x / 16) 16 a, lt-ltb (x % 16) 16 b) (ap Some m)

-- bytes, each below 256, are read back from their digits
pub bytes_back : (s : List ℕ) → All (λ x. x < 256) s → bytes_of (hex_of s) ≡ s
unfolding hex_of pair_of bytes_of
bytes_back [] h = refl
bytes_back (x ∷ s) h = rw (byte_pair x h.0, bytes_back s h.1)

pub hex_good : (s : List ℕ) → All (λ x. x < 256) s → is_hex (hex_of s) ≡ true
unfolding hex_of pair_of is_hex
hex_good [] h = refl
hex_good (x ∷ s) h = rw (byte_pair x h.0, hex_good s h.1)

-- the digit of the value of a digit
digit_value : (x : ℕ) → value_of x < no_digit → digit_of (value_of x) ≡ x
unfolding value_of
digit_value x h = go (leb 48 x && leb x 57) refl
  where
    other : (t : Bool) → (leb 97 x && leb x 102) ≡ t → (leb 48 x && leb x 57) ≡ false → digit_of (value_of x) ≡ x
    other true k e =
        let l : 97 ≤ x = leb-true 97 x (and_left (leb 97 x) (leb x 102) k) in
        rw (e, k, le-ltb (x - 87) 10 (omega arith)) (omega arith)
    other false k e = let z : no_digit < no_digit = rw (e, k) at h in absurd (omega arith)

    go : (t : Bool) → (leb 48 x && leb x 57) ≡ t → digit_of (value_of x) ≡ x
    go true e =
        let l : 48 ≤ x = leb-true 48 x (and_left (leb 48 x) (leb x 57) e) in
        let m : x ≤ 57 = leb-true x 57 (and_right (leb 48 x) (leb x 57) e) in
        rw (e, lt-ltb (x - 48) 10 (omega arith)) (omega arith)
    go false e = other (leb 97 x && leb x 102) refl e

-- the digits of the byte of two digits
pair_byte : (x y b : ℕ) → byte_of x y ≡ Some b → pair_of b ≡ x ∷ y ∷ []
unfolding byte_of pair_of
pair_byte x y b h = go (ltb (value_of x) no_digit && ltb (value_of y) no_digit) refl
  where
    go : (t : Bool) → (ltb (value_of x) no_digit && ltb (value_of y) no_digit) ≡ t → pair_of b ≡ x ∷ y ∷ []
    go true e =
        let i : Some (16 * value_of x + value_of y) ≡ Some b = rw e at h in
        let j : b ≡ 16 * value_of x + value_of y = cc in
        let m : value_of x < no_digit = ltb-true (value_of x) no_digit (and_left (ltb (value_of x) no_digit) (ltb (value_of y) no_digit) e) in
        let n : value_of y < no_digit = ltb-true (value_of y) no_digit (and_right (ltb (value_of x) no_digit) (ltb (value_of y) no_digit) e) in
        let p : b / 16 ≡ value_of x = omega arith in
        let q : b % 16 ≡ value_of y = omega arith in
        rw (p, q, digit_value x m, digit_value y n)
    go false e = let i : None ≡ Some b = rw e at h in let z : ◌≡◌ {A = ℕ} 0 1 = cc in absurd (omega arith)

-- a text of digits is written from its bytes
pub hex_back : (s : List ℕ) → is_hex s ≡ true → hex_of (bytes_of s) ≡ s
unfolding is_hex bytes_of hex_of
hex_back [] h = refl
hex_back (x ∷ []) h = cc
hex_back (x ∷ y ∷ s) h = go (byte_of x y) refl (λ k. hex_back s k)
  where
    go : (r : Option ℕ) → byte_of x y ≡ r → (is_hex s ≡ true → hex_of (bytes_of s) ≡ s) → hex_of (bytes_of (x ∷ y ∷ s)) ≡ x ∷ y ∷ s
    go (Some b) e ih = rw (e, pair_byte x y b e, ih (rw e at h))
    go None e ih = let i : false ≡ true = rw e at h in let z : ◌≡◌ {A = ℕ} 0 1 = cc in absurd (omega arith)
