-- A loop from n down that keeps the lowest number that passes a test. Assumes nothing.
use Prim.Native.Nat.{ℕ, ◌-◌, ◌≤◌, ◌<◌}
use mathlib.Core.Path.{◌≡◌, refl, sym}
use mathlib.Core.Bool.{Bool, true, false}
use native.Mathlib.Decide.{dec_lt, ℕ_discrete}
use native.Mathlib.Omega.{arith}
use Rattle.basis.specs.Choice.{pick}
use Rattle.basis.specs.Search.{first_below}
use Rattle.basis.proofs.Search.{first_only, first_end}

-- r is the lowest number from p on, and below n, that passes, or n where none does
pub record Lowest (f : ℕ → Bool) (n p r : ℕ) : Type 0 where
  pub most : r ≤ n
  pub from : p ≤ r
  pub passes : r < n → f r ≡ true
  pub fail : (q : ℕ) → p ≤ q → q < r → f q ≡ false

-- the start of the loop
pub lowest_start : (f : ℕ → Bool) (n : ℕ) → Lowest f n n n
lowest_start f n = record {
  most = omega arith;
  from = omega arith;
  passes = λ l. absurd (omega arith);
  fail = λ q k l. absurd (omega arith);
}

-- its step
pub lowest_next : (f : ℕ → Bool) (n p r : ℕ) → Lowest f n p r → 0 < p → Lowest f n (p - 1) (pick (f (p - 1)) (p - 1) r)
lowest_next f n p r h l = go (f (p - 1)) refl
  where
    go : (b : Bool) → f (p - 1) ≡ b → Lowest f n (p - 1) (pick b (p - 1) r)
    go true e = record {
      most = omega (arith, h.most, h.from);
      from = omega arith;
      passes = λ k. e;
      fail = λ q j k. absurd (omega arith);
    }
    go false e = record {
      most = h.most;
      from = omega (arith, h.from);
      passes = h.passes;
      fail = λ q j k. at_or_above q j k (ℕ_discrete q (p - 1));
    }
      where
        at_or_above : (q : ℕ) → p - 1 ≤ q → q < r → Dec (q ≡ p - 1) → f q ≡ false
        at_or_above q j k (yes s) = rw s e
        at_or_above q j k (no d) = h.fail q (omega arith) k

-- its end
pub lowest_end : (f : ℕ → Bool) (n p r : ℕ) → Lowest f n p r → p ≤ 0 → r ≡ first_below n f
lowest_end f n p r h z = go (dec_lt r n)
  where
    go : Dec (r < n) → r ≡ first_below n f
    go (yes l) = sym (first_only n f r l (h.passes l) (λ q k. h.fail q (omega arith) k))
    go (no d) =
        let e : r ≡ n = omega (arith, h.most) in
        rw e (sym (first_end n f (λ q k. h.fail q (omega arith) (omega arith))))
