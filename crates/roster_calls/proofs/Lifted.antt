-- A call on a table, lifted to a roster: of one that stands it is what the old call gives of its table, arranged, and any other is met by 22.
-- What the call on the roster promises follows from what the old one does. Assumes nothing.
use Prim.Native.Nat.{ℕ}
use mathlib.Core.Path.{◌≡◌, refl, sym, ap, subst, ◌∙◌}
use mathlib.Core.Bool.{Bool, true, false, not}
use mathlib.Core.List.{List, ◌∷◌}
use native.Mathlib.Omega.{arith}
use Rattle.basis.specs.Choice.{pick, bit}
use Rattle.refusals.specs.Answer.{Answer, Reason, ◌when◌, refusal, answer_by}
use Rattle.ring.specs.Table.{meets_rules}
use Rattle.roster.specs.declared.Roster.{Roster}
use Rattle.roster.specs.Roster.{table_of, stands}
use Rattle.roster.proofs.Arranged.{stands_rules}

-- what the old call gives, and what 22 gives
module _ {D : Type 0} (r : Roster) (given met : D) where
  abbrev lifted : D
  lifted = pick (stands r) given met

  pub lifted_given : stands r ≡ true → lifted ≡ given
  lifted_given s = rw s

  -- what is made of the call is made of the one or of the other
  pub lifted_by : {B : Type 0} (f : D → B) (x y : B) → f given ≡ x → f met ≡ y → f lifted ≡ pick (stands r) x y
  lifted_by f x y e k = go (stands r)
    where
      go : (b : Bool) → f (pick b given met) ≡ pick b x y
      go true = e
      go false = k

  -- 02, E7: "every call on the new one gives what the old one gives": the answer in numbers is 22 for a roster that does not stand, and then
  -- the old call's
  pub lifted_numbers : (answer : D → Answer) (others : List Reason) (values : List ℕ) → answer given ≡ answer_by ((22 when not (meets_rules (table_of r))) ∷ others) values
      → answer met ≡ refusal 22 → answer lifted ≡ answer_by ((22 when not (stands r)) ∷ others) values
  lifted_numbers answer others values old met22 = go (stands r) refl
    where
      go : (b : Bool) → stands r ≡ b → answer lifted ≡ answer_by ((22 when not (stands r)) ∷ others) values
      go true s = rw s (rw (stands_rules r s) at old)
      go false s = rw s met22

  -- what is so of the call is so of what is it: of what the old call gives, with what more is so of that,
  module _ (P : D → Type 0) (all : P lifted) (d : D) {Q : Type 0} where
    -- 02, E7: what is so of the call is so of what the old call gives, with what more is so of that
    pub lifted_valid : stands r ≡ true → d ≡ given → Q → (d ≡ lifted) × (P d × Q)
    lifted_valid s e q = let k = e ∙ sym (lifted_given s) in (k, (subst P (sym k) all, q))

    -- 02, E7: what is so of the call is so of what 22 gives, with whatever is asked of a roster that stands
    pub lifted_refused : stands r ≡ false → d ≡ met → (d ≡ lifted) × (P d × (stands r ≡ true → Q))
    lifted_refused f e = (rw f e, (subst P (sym (rw f e)) all, λ s. absurd (omega (arith, ap bit (sym f ∙ s)))))
