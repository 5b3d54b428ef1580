-- Decimal digits: the last one and those before it, and their writing. Assumes nothing.
use mathlib.Core.Path.{◌≡◌, refl}
use mathlib.Core.Bool.{Bool, true, false}
use mathlib.Core.List.{List, [], ◌∷◌, ◌++◌}
use Prim.Native.Nat.{ℕ, zero, suc, ◌+◌, ◌/◌, ◌%◌, ◌≤◌, ◌<◌}
use native.Mathlib.Omega.{arith}
use lib.Dec.{ltb}
use borrow.Author.Tests.{lt-ltb, le-ltb, ltb-false}
use Rattle.buffer.specs.Put.{Put, Room}
use Rattle.text.specs.Decimal.{digits_up_to, decimal}
use Rattle.buffer.proofs.Put.{put_put, room_front, room_rest}

-- any count that suffices gives the same digits
enough : (k j n : ℕ) → n ≤ k → n ≤ j → digits_up_to k n ≡ digits_up_to j n
unfolding digits_up_to
enough zero zero n h g = refl
enough zero (suc j) n h g = let e : n ≡ 0 = omega arith in rw e
enough (suc k) zero n h g = let e : n ≡ 0 = omega arith in rw e
enough (suc k) (suc j) n h g = go (ltb n 10) refl (λ l. enough k j (n / 10) (omega arith) (omega arith))
  where
    go : (t : Bool) → ltb n 10 ≡ t → (10 ≤ n → digits_up_to k (n / 10) ≡ digits_up_to j (n / 10)) → digits_up_to (suc k) n ≡ digits_up_to (suc j) n
    go true e ih = rw e
    go false e ih = rw (e, ih (ltb-false n 10 e))

-- a number below 10 is one digit
pub decimal_small : (n : ℕ) → n < 10 → decimal n ≡ (48 + n) ∷ []
unfolding decimal digits_up_to
decimal_small zero h = refl
decimal_small (suc n) h = rw (lt-ltb (suc n) 10 h)

-- any other is the digits of its tenth, and then its last
pub decimal_large : (n : ℕ) → 10 ≤ n → decimal n ≡ decimal (n / 10) ++ ((48 + n % 10) ∷ [])
unfolding decimal digits_up_to
decimal_large zero h = absurd (omega arith)
decimal_large (suc n) h = rw (le-ltb (suc n) 10 h, enough n (suc n / 10) (suc n / 10) (omega arith) (omega arith))

-- room for the digits, and their writing: one, or those before the last and then the last
module _ (l : List ℕ) (i n : ℕ) where
  pub small_room : n < 10 → Room l i (decimal n) → Room l i ((48 + n) ∷ [])
  small_room h r = rw (decimal_small n h) at r

  pub small_put : (l1 : List ℕ) (e : ℕ) → n < 10 → Put l i ((48 + n) ∷ []) l1 e → Put l i (decimal n) l1 e
  small_put l1 e h p = rw (decimal_small n h) p

  pub large_room : 10 ≤ n → Room l i (decimal n) → Room l i (decimal (n / 10))
  large_room h r = room_front (decimal (n / 10)) ((48 + n % 10) ∷ []) (decimal_large n h) r

  module _ (l1 : List ℕ) (e : ℕ) (h : 10 ≤ n) (p : Put l i (decimal (n / 10)) l1 e) where
    pub large_last : Room l i (decimal n) → Room l1 e ((48 + n % 10) ∷ [])
    large_last r = room_rest (decimal (n / 10)) ((48 + n % 10) ∷ []) (decimal_large n h) r p

    pub large_put : (l2 : List ℕ) (e2 : ℕ) → Put l1 e ((48 + n % 10) ∷ []) l2 e2 → Put l i (decimal n) l2 e2
    large_put l2 e2 q = rw (decimal_large n h) (put_put p q)

pub ruleset decimals = (small_room, small_put, large_room, large_last, large_put)
