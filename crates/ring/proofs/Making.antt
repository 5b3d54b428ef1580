-- Making a ring: the answer goes by the tests, and a ring that is made meets the ring rules. Assumes nothing.
use Prim.Native.Nat.{ℕ, ◌-◌, ◌≤◌}
use mathlib.Core.Path.{◌≡◌, refl, sym, ◌∙◌}
use mathlib.Core.Bool.{Bool, true, false, ◌&&◌, not}
use mathlib.Core.List.{List, ◌++◌}
use native.Mathlib.Omega.{arith}
use lib.Dec.{eqb, leb}
use lib.ListN.{length, replicate}
use borrow.Author.Tests.{eqb-true, leb-true, not-true, not-false}
use Rattle.basis.specs.Count.{total}
use Rattle.basis.proofs.Bools.{and_left, and_right}
use Rattle.channels.specs.Channels.{Channels, unlit_channels}
use Rattle.ports.specs.Ports.{each_at_most}
use Rattle.rules.proofs.Rules.{rules_test}
use Rattle.rules.proofs.Fresh.{fresh_rules}
use Rattle.refusals.specs.Refusal.{judged, Verdict}
use Rattle.refusals.specs.declared.Refusal.{Refusal}
use Rattle.refusals.specs.declared.Refusal.TheVariants.{NodeCount}
use Rattle.ring.specs.Table.{RingTable, meets_rules, blank_table, fresh_table}
use Rattle.ring.specs.Making.{made_by, make_of}
use Rattle.causes.specs.Causes.{port_causes, make_causes}
use Rattle.refusals.proofs.Judged.{none_holds}
use Rattle.causes.proofs.Fields.{fields_judged}
use Rattle.std.specs.Prelude.{Ok, Err}

module _ (N : ℕ) (ks : List ℕ) (r : Bool) (e : r ≡ (leb 3 N && leb N 64 && eqb (length ks) N)) where
  -- a number of nodes that was found not to hold is refused by 1
  pub make_count : (b : RingTable) → not r ≡ true → b ≡ blank_table → record { table = b; verdict = Err NodeCount } ≡ make_of N ks
  unfolding make_of
  make_count b h k = rw (k, ← e, not-true r h)

  module _ (h : not r ≡ false) where
    -- a port list that N counts is at most 64 long
    pub count_most : length ks ≤ 64
    count_most =
        let b = sym e ∙ not-false r h in
        omega (arith, leb-true N 64 (search (and_left, and_right)), eqb-true (length ks) N (and_right (leb 3 N && leb N 64) _ b))

    module _ (fields : List ℕ) (v : Verdict) (f : fields ≡ ks ++ replicate (64 - length ks) 0) (g : v ≡ judged (port_causes fields)) where
      -- the list is judged as its fields
      make_ports : (w : Verdict) → v ≡ w → make_of N ks ≡ made_by N ks w
      unfolding make_of
      make_ports w k = rw (← e, not-false r h, ← fields_judged ks (64 - length ks), ← f, ← g, k)

      -- a ring is made
      pub make_granted : (chs : Channels) → v ≡ Ok tt → chs ≡ unlit_channels
          → record { table = record { nodes = N; ports = fields; channels = chs }; verdict = Ok tt } ≡ make_of N ks
      make_granted chs k u = rw (f, u) (sym (make_ports (Ok tt) k))

      -- or refused, with the blank table
      pub make_refused : (b : RingTable) (x : Refusal) → v ≡ Err x → b ≡ blank_table
          → record { table = b; verdict = Err x } ≡ make_of N ks
      make_refused b x k u = rw u (sym (make_ports (Err x) k))

-- for `search (rules, making)`
pub ruleset making = (make_count, count_most, make_granted, make_refused)

-- within the limits, a fresh table meets the rules
fresh_meets : (N : ℕ) (ks : List ℕ) → judged (make_causes N ks) ≡ Ok tt → meets_rules (fresh_table N ks) ≡ true
fresh_meets N ks g =
    let h = none_holds (make_causes N ks) g in
    let b = not-false (leb 3 N && leb N 64 && eqb (length ks) N) h.0 in
    rules_test N (fresh_table N ks).ports unlit_channels
    (fresh_rules N ks (leb-true 3 N (search (and_left, and_right))) (leb-true N 64 (search (and_left, and_right)))
    (eqb-true (length ks) N (search (and_left, and_right))) (not-false (each_at_most 64 ks) h.1.0)
    (leb-true (total ks) 192 (not-false (leb (total ks) 192) h.1.1.0)))

-- Law: a ring that is made meets the ring rules
pub make_rules : (N : ℕ) (ks : List ℕ) → (make_of N ks).verdict ≡ Ok tt → meets_rules (make_of N ks).table ≡ true
unfolding make_of
make_rules N ks e = go (judged (make_causes N ks)) refl e
  where
    go : (v : Verdict) → judged (make_causes N ks) ≡ v → (made_by N ks v).verdict ≡ Ok tt → meets_rules (made_by N ks v).table ≡ true
    go (Ok _) g e = fresh_meets N ks g
    go (Err r) g e = cc
