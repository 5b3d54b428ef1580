-- What a request that the ports permit leaves: with the new circuit, no node has more circuits than ports and no number is there twice.
-- Assumes nothing.
use Prim.Native.Nat.{ℕ, suc, ◌≤◌, ◌<◌}
use mathlib.Core.Path.{◌≡◌}
use mathlib.Core.Bool.{true}
use mathlib.Core.List.{List, ◌∷◌}
use native.Mathlib.Decide.{ℕ_discrete}
use native.Mathlib.Omega.{arith}
use lib.ListN.{get_or}
use borrow.Author.Tests.{eq-eqb}
use Rattle.basis.specs.Count.{tally, distinct}
use Rattle.basis.proofs.Bools.{and_both, bit_eq, bit_ne}
use Rattle.lightpath.specs.declared.Circuit.{Circuit}
use Rattle.channels.specs.Channels.{Channels, circuits}
use Rattle.ports.specs.Ports.{ports_at}
use Rattle.rules.specs.Allowable.{Allowable}
use Rattle.rules.proofs.Rules.{PortsHold, Rules}

-- a free port at the new circuit's node leaves room for it at every node
room : (ks : List ℕ) (key : Circuit → ℕ) (c : Circuit) (cs : List Circuit) → tally key (key c) cs < ports_at ks (key c)
    → (j : ℕ) → tally key (suc j) cs ≤ get_or ks j 0 → tally key (suc j) (c ∷ cs) ≤ get_or ks j 0
room ks key c cs free j within = go (ℕ_discrete (key c) (suc j))
  where
    go : Dec (key c ≡ suc j) → tally key (suc j) (c ∷ cs) ≤ get_or ks j 0
    go (yes e) = let f : tally key (suc j) cs < get_or ks j 0 = rw e at free in omega (arith, bit_eq (key c) (suc j) e)
    go (no n) = omega (arith, bit_ne (key c) (suc j) n)

module _ (N : ℕ) (ks : List ℕ) (t : Channels) (c : Circuit) (rules : Rules N ks t) (may : Allowable N ks t c) where
  -- the ports serve the new circuit too
  pub ports_more : PortsHold ks (c ∷ circuits t)
  ports_more j l = (
    room ks (λ c. c.source) c (circuits t) may.sender j (rules.ports j l).0,
    room ks (λ c. c.destination) c (circuits t) may.receiver j (rules.ports j l).1,
  )

  -- the numbers are distinct with its own
  pub numbers_more : distinct (λ c. c.number) (c ∷ circuits t) ≡ true
  numbers_more = and_both _ _ (eq-eqb _ _ may.unused) rules.numbers
