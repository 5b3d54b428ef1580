-- The circuits of a place to a node, by what the place holds. Assumes nothing.
use Prim.Native.Nat.{ℕ}
use mathlib.Core.Path.{◌≡◌, ◌∙◌, sym}
use borrow.Author.Tests.{eq-eqb, ne_eqb}
use Rattle.lightpath.specs.declared.Circuit.{Circuit}
use Rattle.slots.specs.declared.Slot.{Slot}
use Rattle.slots.specs.declared.Slot.TheVariants.{Unlit as unlit, Alone as alone, Shared as shared}
use Rattle.node_lines.specs.Lines.{exchanged}
use Rattle.node_lines.specs.Arrivals.{arrival_of, arrivals_at}

-- a circuit
module _ (c : Circuit) (node : ℕ) where
  pub arrival_to : (x : Circuit) → c.destination ≡ node → x ≡ exchanged c → alone x ≡ arrival_of node c
  arrival_to x h e = rw (eq-eqb c.destination node h, e)

  pub arrival_none : (c.destination ≡ node → ⊥) → unlit ≡ arrival_of node c
  arrival_none h = rw (ne_eqb c.destination node h)

-- a place
module _ (s : Slot) (node : ℕ) where
  pub place_unlit : s ≡ unlit → unlit ≡ arrivals_at node s
  place_unlit k = rw k

  pub place_alone : (a : Circuit) (x : Slot) → s ≡ alone a → x ≡ arrival_of node a → x ≡ arrivals_at node s
  place_alone a x k e = rw k e

  module _ (a b : Circuit) (k : s ≡ shared a b) where
    pub place_second : (x : Slot) → (a.destination ≡ node → ⊥) → x ≡ arrival_of node b → x ≡ arrivals_at node s
    place_second x h e = e ∙ sym (rw (k, ne_eqb a.destination node h))

    module _ (h : a.destination ≡ node) where
      pub place_first : (x : Slot) → (b.destination ≡ node → ⊥) → x ≡ arrival_of node a → x ≡ arrivals_at node s
      place_first x g e = e ∙ sym (rw (k, eq-eqb a.destination node h, ne_eqb b.destination node g))

      pub place_both : (x y : Circuit) → b.destination ≡ node → x ≡ exchanged a → y ≡ exchanged b → shared x y ≡ arrivals_at node s
      place_both x y g e f = rw (k, eq-eqb a.destination node h, eq-eqb b.destination node g, e, f)

pub ruleset placed = (arrival_to, arrival_none, place_unlit, place_alone, place_second, place_first, place_both)
