-- 01, "The ring": what one place holds. Assumes nothing. What the calls of the ring table promise.
use Rattle.std.specs.Prelude.{ℕ, Bool, true, false, ◌||◌, List, [], ◌∷◌, eqb, ltb}
use Rattle.basis.specs.Choice.{pick}
use Rattle.lightpath.specs.Circuit.{blank_circuit}
use Rattle.lightpath.specs.declared.Circuit.{Circuit}
pub use Rattle.slots.specs.declared.Slot.{Slot}
pub use Rattle.slots.specs.declared.Slot.TheVariants.{Unlit as unlit, Alone as alone, Shared as shared}

-- a place holds none, one or two circuits
abbrev pub held : Slot → List Circuit
held unlit = []
held (alone a) = a ∷ []
held (shared a b) = a ∷ b ∷ []

-- lit: a circuit is there
abbrev pub is_lit : Slot → Bool
is_lit unlit = false
is_lit (alone a) = true
is_lit (shared a b) = true

-- unlit: none is
abbrev pub is_unlit : Slot → Bool
is_unlit unlit = true
is_unlit (alone a) = false
is_unlit (shared a b) = false

-- a circuit alone at its place is nonsharing
abbrev pub is_alone : Slot → Bool
is_alone unlit = false
is_alone (alone a) = true
is_alone (shared a b) = false

-- the first circuit of a place
abbrev pub first_of : Slot → Circuit
first_of unlit = blank_circuit
first_of (alone a) = a
first_of (shared a b) = a

-- two circuits at one place, the lower number first
abbrev pub together : Circuit → Circuit → Slot
together a b = pick (ltb a.number b.number) (shared a b) (shared b a)

-- of a place with the circuit of number n: that circuit, and what is left without it
abbrev pub named : ℕ → Slot → Circuit
named n unlit = blank_circuit
named n (alone a) = a
named n (shared a b) = pick (eqb a.number n) a b

abbrev pub without : ℕ → Slot → Slot
without n unlit = unlit
without n (alone a) = unlit
without n (shared a b) = pick (eqb a.number n) (alone b) (alone a)

-- whether a place holds the circuit of number n
abbrev pub holds : ℕ → Slot → Bool
holds n unlit = false
holds n (alone a) = eqb a.number n
holds n (shared a b) = eqb a.number n || eqb b.number n
