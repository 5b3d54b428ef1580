-- The ring rules as facts, from the test and back. Assumes nothing.
use Prim.Native.Nat.{ℕ, zero, suc, ◌+◌, ◌≤◌, ◌<◌, suc-le-suc}
use mathlib.Core.Path.{◌≡◌, refl}
use mathlib.Core.Bool.{true}
use mathlib.Core.List.{List, [], ◌∷◌}
use native.Mathlib.Nat.{le_of_suc-le-suc, not-suc-le-zero}
use native.Mathlib.Omega.{arith}
use lib.Dec.{eqb}
use lib.ListN.{length, get_or}
use borrow.Author.Tests.{eqb-true, leb-true, le-leb}
use Rattle.basis.specs.Count.{total, distinct}
use Rattle.basis.proofs.Bools.{and_left, and_right, and_both}
use Rattle.basis.proofs.Search.{every_at, at_every}
use Rattle.limits.specs.Limits.{place_count, least_nodes, most_nodes, port_fields, most_total}
use Rattle.lightpath.specs.declared.Circuit.{Circuit}
use Rattle.channels.specs.Channels.{Channels, at, circuits}
use Rattle.ports.specs.Ports.{limit_of, limits, spare_zero}
use Rattle.ports_used.specs.PortsUsed.{sends, receives}
use Rattle.rules.specs.Rules.{sized, unlit_from, ends, ports_hold, shares, fits, ring_rules}

-- no node sends or receives more than its port count; node 1 has the first
abbrev pub PortsHold : List ℕ → List Circuit → Type 0
PortsHold ks cs = (j : ℕ) → j < length ks → (sends (suc j) cs ≤ get_or ks j 0) × (receives (suc j) cs ≤ get_or ks j 0)

-- 01: a table that meets the ring rules has at no node more circuits sent, or more received, than the node has port pairs
pub ports_from : (i : ℕ) (ks : List ℕ) (cs : List Circuit) → ports_hold i ks cs ≡ true → (j : ℕ) → j < length ks
    → (sends (i + j) cs ≤ get_or ks j 0) × (receives (i + j) cs ≤ get_or ks j 0)
ports_from i [] cs h j l = absurd (not-suc-le-zero l)
ports_from i (k ∷ ks) cs h zero l =
    let e : i + 0 ≡ i = omega arith in rw e (leb-true _ _ (search (and_left, and_right)), leb-true _ _ (search (and_left, and_right)))
ports_from i (k ∷ ks) cs h (suc j) l =
    let e : i + suc j ≡ suc i + j = omega arith in rw e (ports_from (suc i) ks cs (search (and_left, and_right)) j (le_of_suc-le-suc l))

-- and back
pub from_ports : (i : ℕ) (ks : List ℕ) (cs : List Circuit)
    → ((j : ℕ) → j < length ks → (sends (i + j) cs ≤ get_or ks j 0) × (receives (i + j) cs ≤ get_or ks j 0)) → ports_hold i ks cs ≡ true
from_ports i [] cs h = refl
from_ports i (k ∷ ks) cs h =
    let e : i + 0 ≡ i = omega arith in
    let z = rw e at (h 0 (omega arith)) in
    and_both _ _ (and_both _ _ (le-leb _ _ z.0) (le-leb _ _ z.1))
    (from_ports (suc i) ks cs (λ j l. let f : i + suc j ≡ suc i + j = omega arith in rw f at (h (suc j) (suc-le-suc l))))

-- what the test of the ring rules says, in its order but for the two tests of each place, which are one here
pub record Rules (N : ℕ) (ks : List ℕ) (t : Channels) : Type 0 where
  pub bounds : limits N ks ≡ true
  pub sizes : sized ks t ≡ true
  pub unused : unlit_from (limit_of ks) t ≡ true
  pub places : (p : ℕ) → p < place_count → fits N p (at t p) ≡ true
  pub numbers : distinct (λ c. c.number) (circuits t) ≡ true
  pub ports : PortsHold ks (circuits t)
  pub spare : spare_zero N ks ≡ true

module _ (N : ℕ) (ks : List ℕ) (t : Channels) where
  -- the test passes only where they hold
  pub rules_hold : ring_rules N ks t ≡ true → Rules N ks t
  rules_hold h = record {
    bounds = search (and_left, and_right) depth 8;
    sizes = search (and_left, and_right) depth 8;
    unused = search (and_left, and_right) depth 8;
    places =
        λ p l. and_both _ _ (every_at place_count (λ p. ends N (at t p)) (search (and_left, and_right) depth 8) p l)
        (every_at place_count (λ p. shares N p (at t p)) (search (and_left, and_right) depth 8) p l);
    numbers = search (and_left, and_right) depth 8;
    spare = search (and_left, and_right) depth 8;
    ports = λ j l. let e : 1 + j ≡ suc j = omega arith in rw e at (ports_from 1 ks (circuits t) (search (and_left, and_right) depth 8) j l);
  }

  -- and wherever they do
  pub rules_test : Rules N ks t → ring_rules N ks t ≡ true
  rules_test r =
      and_both _ _
      (and_both _ _
      (and_both _ _
      (and_both _ _
      (and_both _ _ (and_both _ _ (and_both _ _ r.bounds r.sizes) r.unused)
      (at_every place_count (λ p. ends N (at t p)) (λ p l. and_left _ _ (r.places p l))))
      r.numbers)
      (from_ports 1 ks (circuits t) (λ j l. let e : 1 + j ≡ suc j = omega arith in rw e (r.ports j l))))
      (at_every place_count (λ p. shares N p (at t p)) (λ p l. and_right (ends N (at t p)) _ (r.places p l))))
      r.spare

-- the numbers that the rules bound
pub record Limits (N : ℕ) (ks : List ℕ) (t : Channels) : Type 0 where
  pub three : least_nodes ≤ N
  pub most : N ≤ most_nodes
  pub fields : length ks ≡ port_fields
  pub long : length t ≡ place_count
  pub below : limit_of ks ≤ place_count

-- they follow from the rules
pub limits_hold : (N : ℕ) (ks : List ℕ) (t : Channels) → Rules N ks t → Limits N ks t
limits_hold N ks t r =
    let b = r.bounds in
    let k : total ks ≤ most_total = leb-true _ _ (search (and_left, and_right)) in
    record {
      three = leb-true _ _ (search (and_left, and_right));
      most = leb-true _ _ (search (and_left, and_right));
      fields = eqb-true _ _ (and_left _ _ r.sizes);
      long = eqb-true _ _ (and_right (eqb (length ks) port_fields) _ r.sizes);
      below = omega arith;
    }
