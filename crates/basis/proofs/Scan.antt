-- A loop over the numbers below n that stops at the first that passes a test, or fails one. Each law takes a callee's answer and the
-- branch's test as they stand in the record of a need, so that `search (rules, scan)` finds them. Assumes nothing.
use Prim.Native.Nat.{ℕ, ◌+◌, ◌≤◌, ◌<◌}
use mathlib.Core.Path.{◌≡◌, sym, ◌∙◌}
use mathlib.Core.Bool.{Bool, true, false, true≢false}
use native.Mathlib.Decide.{ℕ_discrete}
use native.Mathlib.Omega.{arith}
use borrow.Author.Tests.{not-true, not-false}
use Rattle.basis.specs.Search.{every_below, first_below}
use Rattle.basis.proofs.Bools.{fails}
use Rattle.basis.proofs.Search.{first_only, first_end, at_every, every_at}

-- all below i answer b
pub record Passed (f : ℕ → Bool) (b : Bool) (i : ℕ) : Type 0 where
  pub before : (q : ℕ) → q < i → f q ≡ b

-- the start of the loop
pub scan_start : (f : ℕ → Bool) (b : Bool) → Passed f b 0
scan_start f b = record { before = λ q l. absurd (omega arith) }

-- its step
pub scan_next : (f : ℕ → Bool) (b : Bool) (i : ℕ) (r : Bool) → Passed f b i → r ≡ f i → r ≡ b → Passed f b (i + 1)
scan_next f b i r h e t = record { before = step }
  where
    step : (q : ℕ) → q < i + 1 → f q ≡ b
    step q k = go (ℕ_discrete q i)
      where
        go : Dec (q ≡ i) → f q ≡ b
        go (yes s) = rw s (sym e ∙ t)
        go (no n) = h.before q (omega arith)

-- the first that passes is found
pub scan_hit : (f : ℕ → Bool) (n i : ℕ) (r : Bool) → Passed f false i → r ≡ f i → r ≡ true → i < n → i ≡ first_below n f
scan_hit f n i r h e t l = sym (first_only n f i l (sym e ∙ t) h.before)

-- or there is none
pub scan_end : (f : ℕ → Bool) (n i : ℕ) → Passed f false i → n ≤ i → n ≡ first_below n f
scan_end f n i h l = sym (first_end n f (λ q k. h.before q (omega arith)))

-- all pass
pub scan_all : (f : ℕ → Bool) (n i : ℕ) → Passed f true i → n ≤ i → true ≡ every_below n f
scan_all f n i h l = sym (at_every n f (λ q k. h.before q (omega arith)))

-- or one fails
pub scan_fail : (f : ℕ → Bool) (n i : ℕ) (r : Bool) → r ≡ f i → r ≡ false → i < n → false ≡ every_below n f
scan_fail f n i r e t l = fails (every_below n f) (λ h. true≢false (sym (every_at n f h i l) ∙ sym e ∙ t))

pub ruleset scan = (scan_start, scan_next, scan_hit, scan_end, scan_all, scan_fail, not-true, not-false)
