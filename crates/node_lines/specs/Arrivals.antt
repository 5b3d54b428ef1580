-- The circuits to a node where they stand, each with its ends exchanged. Assumes nothing. What `arrivals` promises; serves proofs inside only.
use Rattle.std.specs.Prelude.{ℕ, map, eqb}
use Rattle.basis.specs.Choice.{pick}
use Rattle.lightpath.specs.declared.Circuit.{Circuit}
use Rattle.slots.specs.declared.Slot.{Slot}
use Rattle.slots.specs.declared.Slot.TheVariants.{Unlit as unlit, Alone as alone, Shared as shared}
use Rattle.channels.specs.Channels.{Channels}
use Rattle.node_lines.specs.Lines.{exchanged}

-- a circuit alone, if it is to the node
abbrev pub arrival_of : ℕ → Circuit → Slot
arrival_of node c = pick (eqb c.destination node) (alone (exchanged c)) unlit

-- those of a place
abbrev pub arrivals_at : ℕ → Slot → Slot
arrivals_at node unlit = unlit
arrivals_at node (alone a) = arrival_of node a
arrivals_at node (shared a b) = pick (eqb a.destination node) (pick (eqb b.destination node) (shared (exchanged a) (exchanged b)) (arrival_of node a)) (arrival_of node b)

-- those of all places
abbrev pub arrivals_in : ℕ → Channels → Channels
arrivals_in node t = map (λ ch. record { slot = arrivals_at node ch.slot }) t
