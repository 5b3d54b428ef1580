-- 01, "Opening a circuit": what a host does with the records of the moves. "All listed circuits are taken down before any is set up."
-- Assumes nothing. What `RingTable::open`, `decide` and `decide_valid` promise, and `tidy`, `decide_tidy` and `decide_tidy_valid`.
use Rattle.std.specs.Prelude.{ℕ, List, [], ◌∷◌}
use Rattle.lightpath.specs.declared.Circuit.{Circuit}
use Rattle.slots.specs.Slot.{together, without}
use Rattle.slots.specs.declared.Slot.{Slot}
use Rattle.slots.specs.declared.Slot.TheVariants.{Unlit as unlit, Alone as alone, Shared as shared}
use Rattle.channels.specs.Channels.{Channels, at, circuit_of}
use Rattle.channels.specs.Change.{◌gets◌, put}
use Rattle.moves.specs.declared.Move.{Move}

-- the listed circuits are taken down: each old place keeps what else it holds
abbrev pub taken_down : List Move → Channels → Channels
taken_down [] t = t
taken_down (m ∷ ms) t = taken_down ms (put (m.from.0 gets without m.number (at t m.from.0)) t)

-- what a place holds once a circuit is set up there: it alone, or it and the one that stands there; a place with two has no room
abbrev pub with : Circuit → Slot → Slot
with c unlit = alone c
with c (alone a) = together a c
with c (shared a b) = shared a b

abbrev pub set_up : Circuit → ℕ → Channels → Channels
set_up c p t = put (p gets with c (at t p)) t

-- the listed circuits of the first table t are set up, each at its new place
abbrev pub all_set_up : Channels → List Move → Channels → Channels
all_set_up t [] u = u
all_set_up t (m ∷ ms) u = all_set_up t ms (set_up (circuit_of t m.number) m.to.0 u)

-- the host carries out the records ms: the listed circuits are taken down, and then each is set up at its new place
abbrev pub relocated : Channels → List Move → Channels
relocated t ms = all_set_up t ms (taken_down ms t)

-- the host follows the records ms of an opening of c at place p
unfoldable pub followed : Channels → List Move → Circuit → ℕ → Channels
followed t ms c p = set_up c p (relocated t ms)
