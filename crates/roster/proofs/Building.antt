-- A roster built from a table, a table from a roster, and the test of a roster. Assumes nothing.
use Rattle.std.specs.Prelude.{Ok, Err}
use Prim.Native.Nat.{ℕ, ◌≤◌, ◌<◌}
use mathlib.Core.Path.{◌≡◌, refl, sym, ◌∙◌}
use mathlib.Core.Bool.{Bool, true, false, not}
use mathlib.Core.List.{[], ◌∷◌}
use native.Mathlib.Omega.{arith}
use lib.ListN.{length, replicate}
use borrow.Author.Tests.{not-true, not-false}
use Rattle.basis.specs.Count.{distinct}
use Rattle.basis.proofs.Arrays.{lent_within}
use Rattle.limits.specs.Limits.{most_circuits}
use Rattle.channels.specs.Channels.{circuits}
use Rattle.rules.proofs.Counting.{circuits_most}
use Rattle.refusals.specs.declared.Refusal.TheVariants.{BrokenRule}
use Rattle.refusals.specs.Answer.{verdict_answer, answer_by, ◌when◌}
use Rattle.ring.specs.Table.{meets_rules, blank_table}
use Rattle.ring.specs.declared.RingTable.{RingTable}
use Rattle.ring.proofs.TableRules.{table_rules}
use Rattle.roster.specs.Roster.{Roster, blank_roster, arranged, table_of, same_entries, stands, built_of, table_built}
use Rattle.roster.specs.Held.{Typed}
use Rattle.roster.specs.Listed.{Lists}
use Rattle.roster.proofs.Arranged.{arranged_most, table_typed, back_and_there, stands_rules}

-- no entry in a list of zeros
pub blank_lists : Lists [] (replicate most_circuits 0) (replicate most_circuits 0) 0
blank_lists = record { keyed = refl; rested = refl; counted = refl; most = omega arith; ordered = tt; written = tt }

module _ (t : RingTable) (meets : meets_rules t ≡ true) where
  pub room_for_all : length (circuits t.channels) ≤ most_circuits
  room_for_all = circuits_most t.nodes t.ports t.channels (table_rules t meets)

  pub numbers_apart : distinct (λ c. c.number) (circuits t.channels) ≡ true
  numbers_apart = (table_rules t meets).numbers

module _ (t : RingTable) (m : Bool) (is : m ≡ meets_rules t) where
  -- a table that breaks a rule
  pub built_refused : (b : Roster) → b ≡ blank_roster → not m ≡ true → record { roster = b; verdict = Err BrokenRule } ≡ built_of t
  unfolding built_of
  built_refused b e h = rw (← is, not-true m h, e)

  pub built_refused_22 : not m ≡ true → verdict_answer (Err BrokenRule) ≡ answer_by ((22 when not (meets_rules t)) ∷ []) []
  built_refused_22 h = rw (← is, not-true m h)

  -- of which there is no way back
  pub built_none : (b : Roster) → not m ≡ true → meets_rules t ≡ true → (stands b ≡ true) × (table_of b ≡ t)
  built_none b h k = let e : true ≡ false = sym k ∙ sym is ∙ not-true m h in let z : ◌≡◌ {A = ℕ} 0 1 = cc in absurd (omega arith)

  -- one that meets them
  pub built_meets : not m ≡ false → meets_rules t ≡ true
  built_meets h = sym is ∙ not-false m h

  pub built_granted : (r : Roster) → not m ≡ false → r ≡ arranged t → record { roster = r; verdict = Ok tt } ≡ built_of t
  unfolding built_of
  built_granted r h e = rw (← is, not-false m h, e)

  pub built_granted_0 : not m ≡ false → verdict_answer (Ok tt) ≡ answer_by ((22 when not (meets_rules t)) ∷ []) []
  built_granted_0 h = rw (← is, not-false m h)

-- for `search (rules, building)`
pub ruleset building = (built_refused, built_refused_22, built_meets, built_granted, built_granted_0)

module _ (r : Roster) where
  -- a roster that stands has no more entries than there is room for
  pub stands_most : stands r ≡ true → r.heading.count ≤ most_circuits
  stands_most h = rw (← back_and_there r h) (most (table_of r) (stands_rules r h) (table_typed r))
    where
      most : (t : RingTable) → meets_rules t ≡ true → Typed t.channels → (arranged t).heading.count ≤ most_circuits
      most t meets typed = arranged_most t meets

  pub stands_many : most_circuits < r.heading.count → false ≡ stands r
  stands_many l = go (stands r) refl
    where
      go : (o : Bool) → stands r ≡ o → false ≡ o
      go true e = absurd (omega (arith, stands_most e))
      go false e = refl

  module _ (m : Bool) (t : RingTable) (same : t ≡ table_of r) (is : m ≡ meets_rules t) where
    pub stands_broken : m ≡ false → false ≡ stands r
    unfolding stands
    stands_broken h = rw (← same, ← is, h)

    pub stands_same : (b : Roster) (o : Bool) → m ≡ true → b ≡ arranged t → o ≡ same_entries b r → o ≡ stands r
    unfolding stands
    stands_same b o h e f = rw (← same, ← is, h, ← e) f

-- for `search (rules, standing)`
pub ruleset standing = (stands_many, stands_broken, stands_same)

module _ (r : Roster) (m : Bool) (is : m ≡ stands r) where
  pub table_refused : (b : RingTable) → b ≡ blank_table → not m ≡ true → record { table = b; verdict = Err BrokenRule } ≡ table_built r
  unfolding table_built
  table_refused b e h = rw (← is, not-true m h, e)

  pub table_refused_22 : not m ≡ true → verdict_answer (Err BrokenRule) ≡ answer_by ((22 when not (stands r)) ∷ []) []
  table_refused_22 h = rw (← is, not-true m h)

  pub table_none : (b : RingTable) → not m ≡ true → stands r ≡ true → (meets_rules b ≡ true) × (arranged b ≡ r)
  table_none b h k = let e : true ≡ false = sym k ∙ sym is ∙ not-true m h in let z : ◌≡◌ {A = ℕ} 0 1 = cc in absurd (omega arith)

  pub table_most : not m ≡ false → r.heading.count ≤ most_circuits
  table_most h = stands_most r (sym is ∙ not-false m h)

  pub table_granted : (t : RingTable) → not m ≡ false → t ≡ table_of r → record { table = t; verdict = Ok tt } ≡ table_built r
  unfolding table_built
  table_granted t h e = rw (← is, not-false m h, e)

  pub table_granted_0 : not m ≡ false → verdict_answer (Ok tt) ≡ answer_by ((22 when not (stands r)) ∷ []) []
  table_granted_0 h = rw (← is, not-false m h)

-- a roster that stands comes back from its table
pub table_back : (r : Roster) (t : RingTable) → t ≡ table_of r → stands r ≡ true → (meets_rules t ≡ true) × (arranged t ≡ r)
table_back r t e k = rw e (stands_rules r k, back_and_there r k)

-- for `search (rules, tabling)`
pub ruleset tabling = (lent_within, table_refused, table_refused_22, table_most, table_granted, table_granted_0)
