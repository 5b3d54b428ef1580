-- The circuits to a node, entered as circuits from it, go by rising number. Assumes nothing.
use Prim.Native.Nat.{ℕ, ◌+◌, ◌≤◌, ◌<◌}
use mathlib.Core.Path.{◌≡◌, refl, ◌∙◌}
use mathlib.Core.Bool.{Bool, true, false, not}
use mathlib.Core.List.{List, [], ◌∷◌}
use native.Mathlib.Decide.{ℕ_discrete}
use native.Mathlib.Omega.{arith}
use lib.Dec.{eqb}
use borrow.Author.Tests.{eqb-true}
use Rattle.basis.specs.Choice.{pick, bit}
use Rattle.basis.specs.Count.{weigh, tally, All}
use Rattle.basis.proofs.Bools.{bit_eq, bit_passes, all_map, all_and}
use Rattle.basis.proofs.Weigh.{weigh_zero, distinct_most}
use Rattle.lightpath.specs.declared.Circuit.{Circuit}
use Rattle.channels.specs.Channels.{Channels, circuits}
use Rattle.channels.specs.declared.Standing.{Standing}
use Rattle.rules.proofs.Rules.{Rules}
use Rattle.entries.specs.Entry.{key_of}
use Rattle.roster.specs.Roster.{key_in}
use Rattle.roster.specs.Listed.{Ordered}
use Rattle.roster.proofs.Standings.{entries_ordered}
use Rattle.rows.proofs.Rows.{Numbered}
use Rattle.node_lines.specs.Lines.{arrived}
use Rattle.node_lines.specs.Arrivals.{arrivals_in}
use Rattle.node_lines.proofs.Arrived.{arrived_entries, arrived_weighs}

module _ (node : ℕ) where
  -- entries in order, all from one node and each number once, rise by number
  rises : (es : List Standing) → Ordered es → All (λ m. m.circuit.source ≡ node) es → ((k : ℕ) → tally (λ m. m.circuit.number) k es ≤ 1) → Numbered es
  unfolding key_of
  rises [] h s d = tt
  rises (m ∷ es) h s d = (all_map Later _ above es later, rises es h.1 s.1 (λ k. omega (arith, d k)))
    where
      Later : Standing → Type 0
      Later n = (key_in m ≤ key_in n) × ((n.circuit.source ≡ node) × (bit (eqb n.circuit.number m.circuit.number) ≡ 0))

      later : All Later es
      later =
          all_and _ _ es h.0 (all_and _ _ es s.1
          (weigh_zero (λ n. bit (eqb n.circuit.number m.circuit.number)) es
          (omega (arith, d m.circuit.number, bit_eq m.circuit.number m.circuit.number refl))))

      above : (n : Standing) → Later n → m.circuit.number < n.circuit.number
      above n l = go (ℕ_discrete n.circuit.number m.circuit.number)
        where
          go : Dec (n.circuit.number ≡ m.circuit.number) → m.circuit.number < n.circuit.number
          go (yes e) = absurd (omega (arith, l.1.1, bit_eq n.circuit.number m.circuit.number e))
          go (no e) = omega (arith, l.0, l.1.0, s.0, e)

  -- those to the node are from it now
  away : (cs : List Circuit) → weigh (λ c. pick (eqb c.destination node) (bit (not (eqb c.destination node))) 0) cs ≡ 0
  away [] = refl
  away (c ∷ cs) = go (eqb c.destination node) (away cs)
    where
      go : (o : Bool) → weigh (λ c. pick (eqb c.destination node) (bit (not (eqb c.destination node))) 0) cs ≡ 0
          → pick o (bit (not o)) 0 + weigh (λ c. pick (eqb c.destination node) (bit (not (eqb c.destination node))) 0) cs ≡ 0
      go true ih = omega (arith, ih)
      go false ih = omega (arith, ih)

  from_node : (t : Channels) → All (λ m. m.circuit.source ≡ node) (arrived node t)
  from_node t =
      all_map (λ m. bit (not (eqb m.circuit.source node)) ≡ 0) (λ m. m.circuit.source ≡ node) (λ m. is m.circuit.source) (arrived node t)
      (weigh_zero (λ m. bit (not (eqb m.circuit.source node))) (arrived node t)
      (arrived_weighs node (λ c. bit (not (eqb c.source node))) t ∙ away (circuits t)))
    where
      is : (k : ℕ) → bit (not (eqb k node)) ≡ 0 → k ≡ node
      is k z = eqb-true k node (bit_passes (eqb k node) z)

  -- and have each number once
  fewer : (k : ℕ) (cs : List Circuit) → weigh (λ c. pick (eqb c.destination node) (bit (eqb c.number k)) 0) cs ≤ tally (λ c. c.number) k cs
  fewer k [] = omega arith
  fewer k (c ∷ cs) = go (eqb c.destination node) (fewer k cs)
    where
      go : (o : Bool) → weigh (λ c. pick (eqb c.destination node) (bit (eqb c.number k)) 0) cs ≤ tally (λ c. c.number) k cs
          → pick o (bit (eqb c.number k)) 0 + weigh (λ c. pick (eqb c.destination node) (bit (eqb c.number k)) 0) cs ≤ bit (eqb c.number k) + tally (λ c. c.number) k cs
      go true ih = omega (arith, ih)
      go false ih = omega (arith, ih)

  -- on a table that meets the ring rules
  pub arrived_once : (N : ℕ) (ks : List ℕ) (t : Channels) → Rules N ks t → (k : ℕ) → tally (λ m. m.circuit.number) k (arrived node t) ≤ 1
  arrived_once N ks t rules k =
      omega (arith, arrived_weighs node (λ c. bit (eqb c.number k)) t, fewer k (circuits t), distinct_most (λ c. c.number) (circuits t) rules.numbers k)

  -- Law: the circuits to a node go by rising number
  pub arrived_rises : (N : ℕ) (ks : List ℕ) (t : Channels) → Rules N ks t → Numbered (arrived node t)
  arrived_rises N ks t rules =
      rises (arrived node t) (rw (arrived_entries node t) (entries_ordered (arrivals_in node t))) (from_node t)
      (arrived_once N ks t rules)
