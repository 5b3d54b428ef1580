-- What one place holds, by its tests, by the circuit of a number and by weight. Assumes nothing.
use Prim.Native.Nat.{ℕ, ◌+◌, ◌≤◌, ◌<◌}
use mathlib.Core.Path.{◌≡◌, refl}
use mathlib.Core.Bool.{Bool, true, false, not, ◌||◌}
use native.Mathlib.Omega.{arith}
use lib.Dec.{eqb, ltb}
use borrow.Author.Tests.{eqb-true, eqb-false, eq-eqb}
use Rattle.basis.specs.Choice.{pick, bit}
use Rattle.basis.specs.Count.{weigh}
use Rattle.basis.proofs.Bools.{bit_eq, bit_ne}
use Rattle.basis.proofs.Weigh.{keyed, keyed_none}
use Rattle.lightpath.specs.declared.Circuit.{Circuit}
use Rattle.slots.specs.Slot.{Slot, unlit, alone, shared, held, is_lit, is_unlit, is_alone, first_of, together, named, without, holds}

-- a place is unlit when it is not lit
pub unlit_not : (s : Slot) → not (is_lit s) ≡ is_unlit s
unlit_not unlit = refl
unlit_not (alone a) = refl
unlit_not (shared a b) = refl

-- one that the test calls unlit holds nothing
pub is_unlit_lem : (s : Slot) → is_unlit s ≡ true → s ≡ unlit
is_unlit_lem unlit e = refl
is_unlit_lem (alone a) e = cc
is_unlit_lem (shared a b) e = cc

-- one with a circuit alone holds its first circuit
pub alone_first : (s : Slot) → is_alone s ≡ true → s ≡ alone (first_of s)
alone_first unlit e = cc
alone_first (alone a) e = refl
alone_first (shared a b) e = cc

-- at most two circuits are there
pub held_most : (w : Circuit → ℕ) → ((c : Circuit) → w c ≤ 1) → (s : Slot) → weigh w (held s) ≤ 2
held_most w h unlit = omega arith
held_most w h (alone a) = omega (arith, h a)
held_most w h (shared a b) = omega (arith, h a, h b)

-- two together weigh what both do
pub together_weighs : (w : Circuit → ℕ) (a b : Circuit) → weigh w (held (together a b)) ≡ w a + w b
together_weighs w a b = go (ltb a.number b.number)
  where
    go : (o : Bool) → weigh w (held (pick o (shared a b) (shared b a))) ≡ w a + w b
    go true = omega arith
    go false = omega arith

-- 1 for a circuit of number n
abbrev pub of_number : ℕ → Circuit → ℕ
of_number n c = bit (eqb c.number n)

-- whether a place holds a number, by count
pub holds_count : (n : ℕ) (s : Slot) → holds n s ≡ ltb 0 (weigh (of_number n) (held s))
holds_count n unlit = refl
holds_count n (alone a) = go (eqb a.number n)
  where
    go : (o : Bool) → o ≡ ltb 0 (bit o + 0)
    go true = refl
    go false = refl
holds_count n (shared a b) = go (eqb a.number n) (eqb b.number n)
  where
    go : (o r : Bool) → (o || r) ≡ ltb 0 (bit o + (bit r + 0))
    go true true = refl
    go true false = refl
    go false true = refl
    go false false = refl

-- a place that holds number n holds that circuit and what is left without it
pub record Parted (n : ℕ) (s : Slot) : Type 0 where
  pub number : (named n s).number ≡ n
  pub weighs : (w : Circuit → ℕ) → weigh w (held s) ≡ w (named n s) + weigh w (held (without n s))

-- it does where it counts the number
pub parted : (n : ℕ) (s : Slot) → 0 < weigh (of_number n) (held s) → Parted n s
parted n unlit h = absurd (omega arith)
parted n (alone a) h = record { number = is (eqb a.number n) refl; weighs = λ w. refl }
  where
    is : (o : Bool) → eqb a.number n ≡ o → a.number ≡ n
    is true e = eqb-true _ _ e
    is false e = absurd (omega (arith, bit_ne a.number n (eqb-false _ _ e)))
parted n (shared a b) h = go (eqb a.number n) refl (eqb b.number n) refl
  where
    go : (o : Bool) → eqb a.number n ≡ o → (r : Bool) → eqb b.number n ≡ r → Parted n (shared a b)
    go true e r g = record { number = rw e (eqb-true _ _ e); weighs = λ w. rw e refl }
    go false e true g = record { number = rw e (eqb-true _ _ g); weighs = λ w. rw e (omega arith) }
    go false e false g = absurd (omega (arith, bit_ne a.number n (eqb-false _ _ e), bit_ne b.number n (eqb-false _ _ g)))

-- where it holds the number once, a weight of the circuits of that number alone is that circuit's
pub named_weighs : (w : Circuit → ℕ) (n : ℕ) (s : Slot) → weigh (of_number n) (held s) ≡ 1 → weigh (keyed (λ c. c.number) n w) (held s) ≡ w (named n s)
named_weighs w n s h =
    let p = parted n s (omega arith) in
    let e : keyed (λ c. c.number) n w (named n s) ≡ w (named n s) = rw (eq-eqb (named n s).number n p.number) in
    omega (
      arith,
      p.weighs (keyed (λ c. c.number) n w),
      keyed_none (λ c. c.number) n w (held (without n s)) (omega (arith, p.weighs (of_number n), bit_eq (named n s).number n p.number)),
    )
