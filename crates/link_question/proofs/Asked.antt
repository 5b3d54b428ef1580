-- What a question is refused for, and what the numbers of one that is not keep to. Assumes nothing.
use Prim.Native.Nat.{ℕ, ◌≤◌, ◌<◌}
use mathlib.Core.Path.{◌≡◌, sym, ◌∙◌}
use mathlib.Core.Bool.{Bool, true, false, not}
use native.Mathlib.Omega.{arith}
use lib.Dec.{leb, ltb}
use borrow.Author.Tests.{leb-true, ltb-true, lt-ltb, le-ltb, not-false}
use Rattle.basis.proofs.Bools.{and_left, and_right}
use Rattle.lightpath.specs.Circuit.{on_ring}
use Rattle.ports.specs.Ports.{wavelengths}
use Rattle.refusals.specs.declared.Refusal.{Refusal}
use Rattle.refusals.specs.declared.Refusal.TheVariants.{OffRing, NoWavelength, NoDirection}
use Rattle.ring.specs.Table.{meets_rules}
use Rattle.ring.specs.declared.RingTable.{RingTable}
use Rattle.ring.proofs.TableRules.{table_limits}
use Rattle.refusals.proofs.Judged.{none_holds}
use Rattle.link_question.specs.Link.{refusal_of, way, circuit_on, link_causes, link_verdict, link_of}
use Rattle.link_question.specs.Asked.{Asked}
use Rattle.refusals.specs.Refusal.{Verdict}
use Rattle.std.specs.Prelude.{Ok, Err}

-- the verdict, from the tests as they stand in the code
module _ (t : RingTable) (l w d : ℕ) (r : Bool) (e : r ≡ on_ring t.nodes l) where
  -- the link is not 1 to N
  pub no_link : not r ≡ true → Err OffRing ≡ link_verdict t l w d
  unfolding link_verdict
  no_link h = rw (← e, h)

  module _ (h : not r ≡ false) (W : ℕ) (f : W ≡ wavelengths t.ports) where
    -- the wavelength is not below W
    pub no_wavelength : W ≤ w → Err NoWavelength ≡ link_verdict t l w d
    unfolding link_verdict
    no_wavelength k = rw (← e, h, ← f, le-ltb w W k)

    -- the direction is neither 0 nor 1
    pub no_direction : w < W → 2 ≤ d → Err NoDirection ≡ link_verdict t l w d
    unfolding link_verdict
    no_direction k i = rw (← e, h, ← f, lt-ltb w W k, le-ltb d 2 i)

    -- none of these
    pub no_cause : w < W → d < 2 → (Ok tt) ≡ link_verdict t l w d
    unfolding link_verdict
    no_cause k i = rw (← e, h, ← f, lt-ltb w W k, lt-ltb d 2 i)

pub ruleset judging = (no_link, no_wavelength, no_direction, no_cause)

-- the answer, from the verdict
module _ (t : RingTable) (l w d : ℕ) (v : Verdict) (e : v ≡ link_verdict t l w d) where
  -- a question that is granted asks for what is there
  pub asked : meets_rules t ≡ true → v ≡ Ok tt → Asked t l w
  unfolding link_verdict
  asked meets g =
      let limits = table_limits t meets in
      let clear = none_holds (link_causes t l w d) (sym e ∙ g) in
      let link : on_ring t.nodes l ≡ true = not-false (on_ring t.nodes l) clear.0 in
      record {
        low = leb-true _ _ (and_left _ _ link);
        high = leb-true _ _ (and_right (leb 1 l) _ link);
        below = ltb-true _ _ (not-false (ltb w (wavelengths t.ports)) clear.1.0);
        few = omega arith;
      }

  -- its answer is the circuit there
  pub link_granted : (r : ℕ) → v ≡ Ok tt → r ≡ circuit_on t l w (way d) → r ≡ link_of t l w d
  unfolding link_of
  link_granted r g h = rw (← e, g) h

  -- that of any other is the refusal
  pub link_refused : (x : Refusal) (r : ℕ) → v ≡ Err x → r ≡ refusal_of x → r ≡ link_of t l w d
  unfolding link_of
  link_refused x r g h = rw (← e, g) h

pub ruleset answering = (asked, link_granted, link_refused)
