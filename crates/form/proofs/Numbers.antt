-- Numbers as bytes, highest first, and back. Assumes nothing.
use Prim.Native.Nat.{ℕ, zero, suc, ◌+◌, ◌*◌, ◌/◌, ◌%◌, ◌^◌, ◌≤◌, ◌<◌}
use mathlib.Core.Path.{◌≡◌, refl, sym, ap, ◌∙◌}
use mathlib.Core.List.{List, [], ◌∷◌, ◌++◌}
use native.Mathlib.Nat.{zero-add, zero-lt-suc, pow-suc, pow-le-pow_right}
use native.Mathlib.Omega.{arith}
use lib.ListN.{length, get_or, take, drop, length-append}
use lib.Seq.{take-suc, take_all, length-take-le}
use Rattle.basis.specs.Count.{All}
use Rattle.basis.proofs.Bools.{all_left, all_right}
use Rattle.form.specs.Bytes.{high_first, number_from, number_in}

-- one byte more at the end
number_last : (v : ℕ) (s : List ℕ) (x : ℕ) → number_from v (s ++ (x ∷ [])) ≡ number_from v s * 256 + x
unfolding number_from
number_last v [] x = refl
number_last v (y ∷ s) x = number_last (v * 256 + y) s x

-- a number of so many bytes has so many
pub high_long : (width n : ℕ) → length (high_first width n) ≡ width
unfolding high_first
high_long zero n = refl
high_long (suc zero) n = refl
high_long (suc (suc k)) n = omega (arith, length-append (high_first (suc k) (n / 256)) (n % 256 ∷ []), high_long (suc k) (n / 256))

-- the number of its bytes is the number
pub high_number : (k n : ℕ) → number_in (high_first (suc k) n) ≡ n
unfolding high_first number_from
high_number zero n = omega arith
high_number (suc k) n = number_last 0 (high_first (suc k) (n / 256)) (n % 256) ∙ omega (arith, high_number k (n / 256))

-- a number that fits in fewer bytes has a zero before them
high_lead : (k n : ℕ) → n < 256 ^ suc k → high_first (suc (suc k)) n ≡ 0 ∷ high_first (suc k) n
unfolding high_first
high_lead zero n h =
    let q : n / 256 ≡ 0 = omega arith in
    let r : n % 256 ≡ n = omega arith in
    rw (q, r)
high_lead (suc k) n h = rw (high_lead k (n / 256) (omega (arith, pow-suc 256 (suc k))))

-- and without such zeros they are its bytes
pub high_drop : (j k n : ℕ) → n < 256 ^ suc k → drop j (high_first (j + suc k) n) ≡ high_first (suc k) n
high_drop zero k n h = rw zero-add
high_drop (suc j) k n h =
    let e : suc j + suc k ≡ suc (suc (j + k)) = omega arith in
    let g : suc (j + k) ≡ j + suc k = omega arith in
    let m : suc k ≤ suc (j + k) = omega arith in
    let l : n < 256 ^ suc (j + k) = omega (arith, pow-le-pow_right {n = 256} (zero-lt-suc 255) m) in
    rw (e, high_lead (j + k) n l, g) (high_drop j k n h)

-- and bytes are those of their number
pub high_is : (k : ℕ) (v : List ℕ) → All (λ x. x < 256) v → length v ≡ suc k → high_first (suc k) (number_in v) ≡ v
unfolding high_first number_from
high_is zero [] h e = absurd (omega arith)
high_is zero (x ∷ []) h e = let z : 0 * 256 + x ≡ x = omega arith in rw z
high_is zero (x ∷ y ∷ v) h e = absurd (omega arith)
high_is (suc k) v h e =
    let w : List ℕ = take (suc k) v in
    let y : ℕ = get_or v (suc k) 0 in
    let s : v ≡ w ++ (y ∷ []) = sym (take_all (suc (suc k)) v (omega arith)) ∙ take-suc v (suc k) 0 (omega arith) in
    let b : All (λ x. x < 256) (w ++ (y ∷ [])) = rw s at h in
    let l : y < 256 = (all_right (λ x. x < 256) w (y ∷ []) b).0 in
    let n : number_in v ≡ number_in w * 256 + y = ap number_in s ∙ number_last 0 w y in
    let q : number_in v / 256 ≡ number_in w = omega arith in
    let r : number_in v % 256 ≡ y = omega arith in
    rw (q, r, high_is k w (all_left (λ x. x < 256) w (y ∷ []) b) (length-take-le (suc k) v (omega arith))) (sym s)
