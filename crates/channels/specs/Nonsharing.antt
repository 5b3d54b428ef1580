-- 01, "Opening a circuit": the nonsharing circuits by rising place. Assumes nothing. What the calls of the ring table promise of openings and
-- tidyings.
use Rattle.std.specs.Prelude.{ℕ, suc, Bool, List, [], ◌∷◌, take}
use Rattle.lightpath.specs.Circuit.{adjacent}
use Rattle.slots.specs.Slot.{first_of}
use Rattle.slots.specs.declared.Slot.{Slot}
use Rattle.slots.specs.declared.Slot.TheVariants.{Unlit as unlit, Alone as alone, Shared as shared}
use Rattle.channels.specs.Channels.{Channels, at, slots}
pub use Rattle.channels.specs.declared.Standing.{Standing}

-- the circuits alone at some places, which count from p
abbrev pub alone_from : ℕ → List Slot → List Standing
alone_from p [] = []
alone_from p (unlit ∷ u) = alone_from (suc p) u
alone_from p (alone a ∷ u) = record { place = p; circuit = a } ∷ alone_from (suc p) u
alone_from p (shared a b ∷ u) = alone_from (suc p) u

-- the nonsharing circuits of the places below m, by rising place
abbrev pub nonsharing : ℕ → Channels → List Standing
nonsharing m t = alone_from 0 (take m (slots t))

-- the first circuit of place p, with its place
abbrev pub standing_at : Channels → ℕ → Standing
standing_at t p = record { place = p; circuit = first_of (at t p) }

-- the two circuits of a pair are adjacent
abbrev pub adjacent_pair : Standing × Standing → Bool
adjacent_pair p = adjacent p.0.circuit p.1.circuit
