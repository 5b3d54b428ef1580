-- The circuits to a node, entered as circuits from it: each once and no other, by rising number. Assumes nothing.
use Prim.Native.Nat.{ℕ, suc}
use mathlib.Core.Path.{◌≡◌, refl, ◌∙◌}
use mathlib.Core.Bool.{Bool, true, false}
use mathlib.Core.List.{List, [], ◌∷◌, ◌++◌}
use native.Mathlib.Omega.{arith}
use lib.Dec.{eqb}
use lib.ListN.{length}
use Rattle.basis.specs.Choice.{pick}
use Rattle.basis.specs.Count.{weigh}
use Rattle.basis.proofs.Weigh.{weigh_append}
use Rattle.lightpath.specs.declared.Circuit.{Circuit}
use Rattle.slots.specs.Slot.{held}
use Rattle.slots.specs.declared.Slot.{Slot}
use Rattle.slots.specs.declared.Slot.TheVariants.{Unlit as unlit, Alone as alone, Shared as shared}
use Rattle.channels.specs.Channels.{Channels, slots, circuits}
use Rattle.channels.specs.declared.Standing.{Standing}
use Rattle.ports_used.specs.PortsUsed.{receives}
use Rattle.roster.specs.Roster.{standing, standings_from, entries}
use Rattle.roster.proofs.Filing.{weigh_ones}
use Rattle.roster.proofs.Standings.{entries_circuits}
use Rattle.node_lines.specs.Lines.{exchanged, arrivals, arrived}
use Rattle.node_lines.specs.Arrivals.{arrivals_at, arrivals_in}

module _ (node : ℕ) where
  arrivals_append : (xs ys : List Standing) → arrivals node (xs ++ ys) ≡ arrivals node xs ++ arrivals node ys
  arrivals_append [] ys = refl
  arrivals_append (m ∷ xs) ys = go (eqb m.circuit.destination node) refl (arrivals_append xs ys)
    where
      go : (o : Bool) → eqb m.circuit.destination node ≡ o → arrivals node (xs ++ ys) ≡ arrivals node xs ++ arrivals node ys
          → arrivals node (m ∷ (xs ++ ys)) ≡ arrivals node (m ∷ xs) ++ arrivals node ys
      go true e ih = rw (e, ih)
      go false e ih = rw (e, ih)

  -- at a place
  standing_arrivals : (p : ℕ) (s : Slot) → standing p (held (arrivals_at node s)) ≡ arrivals node (standing p (held s))
  standing_arrivals p unlit = refl
  standing_arrivals p (alone a) = go (eqb a.destination node) refl
    where
      go : (o : Bool) → eqb a.destination node ≡ o → standing p (held (arrivals_at node (alone a))) ≡ arrivals node (standing p (held (alone a)))
      go true e = rw e
      go false e = rw e
  standing_arrivals p (shared a b) = go (eqb a.destination node) (eqb b.destination node) refl refl
    where
      go : (o q : Bool) → eqb a.destination node ≡ o → eqb b.destination node ≡ q
          → standing p (held (arrivals_at node (shared a b))) ≡ arrivals node (standing p (held (shared a b)))
      go true true e f = rw (e, f)
      go true false e f = rw (e, f)
      go false true e f = rw (e, f)
      go false false e f = rw (e, f)

  -- at all places
  from_arrivals : (p : ℕ) (t : Channels) → standings_from p (slots (arrivals_in node t)) ≡ arrivals node (standings_from p (slots t))
  from_arrivals p [] = refl
  from_arrivals p (ch ∷ t) = rw (standing_arrivals p ch.slot, from_arrivals (suc p) t, arrivals_append)

  -- they are the entries of the places that hold no others
  pub arrived_entries : (t : Channels) → arrived node t ≡ entries (arrivals_in node t)
  unfolding arrived entries
  arrived_entries t = rw (← from_arrivals 0 t)

  -- a weight of the circuits at a place
  at_weighs : (w : Circuit → ℕ) (s : Slot) → weigh w (held (arrivals_at node s)) ≡ weigh (λ c. pick (eqb c.destination node) (w (exchanged c)) 0) (held s)
  at_weighs w unlit = refl
  at_weighs w (alone a) = go (eqb a.destination node) refl
    where
      go : (o : Bool) → eqb a.destination node ≡ o
          → weigh w (held (arrivals_at node (alone a))) ≡ weigh (λ c. pick (eqb c.destination node) (w (exchanged c)) 0) (held (alone a))
      go true e = rw e
      go false e = rw e
  at_weighs w (shared a b) = go (eqb a.destination node) (eqb b.destination node) refl refl
    where
      go : (o q : Bool) → eqb a.destination node ≡ o → eqb b.destination node ≡ q
          → weigh w (held (arrivals_at node (shared a b))) ≡ weigh (λ c. pick (eqb c.destination node) (w (exchanged c)) 0) (held (shared a b))
      go true true e f = rw (e, f)
      go true false e f = rw (e, f)
      go false true e f = rw (e, f) (omega arith)
      go false false e f = rw (e, f)

  in_weighs : (w : Circuit → ℕ) (t : Channels)
      → weigh w (circuits (arrivals_in node t)) ≡ weigh (λ c. pick (eqb c.destination node) (w (exchanged c)) 0) (circuits t)
  in_weighs w [] = refl
  in_weighs w (ch ∷ t) =
      omega (
        arith,
        weigh_append w (held (arrivals_at node ch.slot)) (circuits (arrivals_in node t)),
        weigh_append (λ c. pick (eqb c.destination node) (w (exchanged c)) 0) (held ch.slot) (circuits t),
        at_weighs w ch.slot,
        in_weighs w t,
      )

  -- Law: of the lines of `to` each circuit to the node stands there once, with its ends exchanged, and no other does: whatever is counted
  pub arrived_weighs : (w : Circuit → ℕ) (t : Channels)
      → weigh (λ m. w m.circuit) (arrived node t) ≡ weigh (λ c. pick (eqb c.destination node) (w (exchanged c)) 0) (circuits t)
  arrived_weighs w t = rw (arrived_entries t) (entries_circuits (arrivals_in node t) w ∙ in_weighs w t)

  -- so there are as many as the node receives
  to_bits : (cs : List Circuit) → weigh (λ c. pick (eqb c.destination node) 1 0) cs ≡ receives node cs
  to_bits [] = refl
  to_bits (c ∷ cs) = go (eqb c.destination node) refl (to_bits cs)
    where
      go : (o : Bool) → eqb c.destination node ≡ o → weigh (λ c. pick (eqb c.destination node) 1 0) cs ≡ receives node cs
          → weigh (λ c. pick (eqb c.destination node) 1 0) (c ∷ cs) ≡ receives node (c ∷ cs)
      go true e ih = rw e (omega (arith, ih))
      go false e ih = rw e (omega (arith, ih))

  pub arrived_count : (t : Channels) → length (circuits (arrivals_in node t)) ≡ receives node (circuits t)
  arrived_count t = omega (arith, weigh_ones (circuits (arrivals_in node t)), in_weighs (λ c. 1) t, to_bits (circuits t))
