-- The loops that count ports in use, and the test that goes by their counts. Assumes nothing.
use Prim.Native.Nat.{ℕ, ◌+◌, ◌≤◌, ◌<◌}
use mathlib.Core.Path.{◌≡◌, ◌∙◌}
use mathlib.Core.Bool.{Bool, true}
use mathlib.Core.List.{List}
use native.Mathlib.Numerals.{add-one}
use native.Mathlib.Omega.{arith}
use lib.ListN.{length, get_or, take, set, replicate}
use borrow.Author.Tests.{leb-true, le-leb}
use lib.Seq.{take-length, take-suc}
use mir.Syntax.{w16}
use mir.Val.{Fits}
use Rattle.basis.proofs.Bools.{and_left, and_right, and_both, same_test}
use Rattle.basis.proofs.Arrays.{take_most}
use Rattle.basis.proofs.Tallied.{tallied_start as key_start, tallied_low as key_low, tallied_next as key_next}
use Rattle.basis.proofs.Search.{every_at, at_every}
use Rattle.limits.specs.Limits.{most_nodes, port_fields, circuit_room}
use Rattle.lightpath.specs.Circuit.{blank_circuit}
use Rattle.lightpath.specs.declared.Circuit.{Circuit}
use Rattle.ports_used.specs.PortsUsed.{sends, receives}
use Rattle.rules.specs.Rules.{ports_hold}
use Rattle.rules.specs.Tallies.{byte_values, Tallied, enough_at, enough}
use Rattle.rules.proofs.Rules.{ports_from, from_ports}

-- the start of a loop that counts by node
pub tallied_start : (key : Circuit → ℕ) (cs : List Circuit) → Tallied key cs 0 (replicate byte_values 0)
tallied_start key cs = record { first = key_start key byte_values }

-- a count has room for one more
pub tallied_room : (key : Circuit → ℕ) (cs : List Circuit) (n k : ℕ) (counts : List ℕ) → Tallied key cs n counts → n < length cs
    → length cs ≤ circuit_room → k < byte_values → Fits w16 (get_or counts k 0 + 1)
tallied_room key cs n k counts h l most q = record { fits = omega (arith, key_low key byte_values (take n cs) counts h.first k q, take_most n cs) }

-- its step
pub tallied_next : (key : Circuit → ℕ) (cs : List Circuit) (n node : ℕ) (counts : List ℕ) → Tallied key cs n counts
    → node ≡ key (get_or cs n blank_circuit) → node < byte_values → n < length cs
    → Tallied key cs (n + 1) (set counts node (get_or counts node 0 + 1))
tallied_next key cs n node counts h e m l = record {
  first = rw (e, add-one, take-suc cs n blank_circuit l) (key_next key byte_values (take n cs) counts h.first (get_or cs n blank_circuit) (rw (← e) m));
}

-- its end
pub tallied_end : (key : Circuit → ℕ) (cs : List Circuit) (i n : ℕ) (counts : List ℕ) → Tallied key cs i counts → i ≤ n → n ≤ i → Tallied key cs n counts
tallied_end key cs i n counts h l k = let e : i ≡ n = omega arith in rw e at h

pub ruleset tallied = (tallied_start, tallied_room, tallied_end)

module _ (ks : List ℕ) (cs : List Circuit) (sent received : List ℕ) (s : Tallied (λ c. c.source) cs (length cs) sent)
    (r : Tallied (λ c. c.destination) cs (length cs) received) (long : length ks ≡ port_fields) where
  -- a node's counts are those of what it sends and receives
  at_node : (j : ℕ) → j < most_nodes → (get_or sent (j + 1) 0 ≡ sends (1 + j) cs) × (get_or received (j + 1) 0 ≡ receives (1 + j) cs)
  at_node j l =
      let e : 1 + j ≡ j + 1 = omega arith in
      rw e ((rw take-length at (s.first.at (j + 1) (omega arith))), (rw take-length at (r.first.at (j + 1) (omega arith))))

  -- by them the ports are enough exactly where they hold
  pub enough_holds : (b : Bool) → b ≡ enough ks sent received → b ≡ ports_hold 1 ks cs
  enough_holds b e = e ∙ same_test _ _ holds tests
    where
      holds : enough ks sent received ≡ true → ports_hold 1 ks cs ≡ true
      holds e =
          from_ports 1 ks cs
          (λ j l.
          let b = every_at most_nodes (enough_at ks sent received) e j (omega arith) in
          let k = at_node j (omega arith) in
          rw (← k.0, ← k.1) (leb-true _ _ (search and_left), leb-true _ _ (search and_right)))

      tests : ports_hold 1 ks cs ≡ true → enough ks sent received ≡ true
      tests e =
          at_every most_nodes (enough_at ks sent received)
          (λ j l.
          let b = ports_from 1 ks cs e j (omega arith) in
          let k = at_node j l in
          rw (k.0, k.1) (and_both _ _ (le-leb _ _ b.0) (le-leb _ _ b.1)))
