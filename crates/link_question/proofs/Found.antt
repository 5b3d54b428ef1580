-- Which circuit of a place uses a link, from the tests as they stand in the code. Assumes nothing.
use Prim.Native.Nat.{ℕ}
use mathlib.Core.Path.{◌≡◌}
use mathlib.Core.Bool.{Bool, true, false}
use Rattle.lightpath.specs.Place.{place_of}
use Rattle.lightpath.specs.Circuit.{uses}
use Rattle.lightpath.specs.declared.Circuit.{Circuit}
use Rattle.lightpath.specs.declared.Direction.{Direction}
use Rattle.slots.specs.Slot.{held}
use Rattle.slots.specs.declared.Slot.{Slot}
use Rattle.slots.specs.declared.Slot.TheVariants.{Unlit as unlit, Alone as alone, Shared as shared}
use Rattle.channels.specs.Channels.{at}
use Rattle.ring.specs.declared.RingTable.{RingTable}
use Rattle.link_question.specs.Link.{no_circuit, running, circuit_on}

module _ (N : ℕ) (d : Direction) (l : ℕ) (s : Slot) where
  -- no circuit is there
  pub found_unlit : s ≡ unlit → no_circuit ≡ running N d l (held s)
  unfolding running
  found_unlit e = simp e

  -- one is there, and uses the link or does not
  pub found_alone : (a : Circuit) (r : Bool) → s ≡ alone a → r ≡ uses N d a l → r ≡ true → a.number ≡ running N d l (held s)
  unfolding running
  found_alone a r e u h = simp (e, ← u, h)

  pub found_none : (a : Circuit) (r : Bool) → s ≡ alone a → r ≡ uses N d a l → r ≡ false → no_circuit ≡ running N d l (held s)
  unfolding running
  found_none a r e u h = simp (e, ← u, h)

  -- two are there, and the first uses it, or the second, or neither
  pub found_first : (a b : Circuit) (r : Bool) → s ≡ shared a b → r ≡ uses N d a l → r ≡ true → a.number ≡ running N d l (held s)
  unfolding running
  found_first a b r e u h = simp (e, ← u, h)

  pub found_second : (a b : Circuit) (q r : Bool) → s ≡ shared a b → q ≡ uses N d a l → q ≡ false → r ≡ uses N d b l → r ≡ true
      → b.number ≡ running N d l (held s)
  unfolding running
  found_second a b q r e u h v k = simp (e, ← u, h, ← v, k)

  pub found_neither : (a b : Circuit) (q r : Bool) → s ≡ shared a b → q ≡ uses N d a l → q ≡ false → r ≡ uses N d b l → r ≡ false
      → no_circuit ≡ running N d l (held s)
  unfolding running
  found_neither a b q r e u h v k = simp (e, ← u, h, ← v, k)

pub ruleset finding = (found_unlit, found_alone, found_none, found_first, found_second, found_neither)

-- the place of the wavelength asked for was looked at, in the direction asked for
pub found_on : (t : RingTable) (l w : ℕ) (d e : Direction) (p : ℕ) (s : Slot) (r : ℕ) → d ≡ e → p ≡ place_of w d → s ≡ at t.channels p
    → r ≡ running t.nodes d l (held s) → r ≡ circuit_on t l w e
found_on t l w d e p s r f g h k = rw (← f, ← g, ← h) k
