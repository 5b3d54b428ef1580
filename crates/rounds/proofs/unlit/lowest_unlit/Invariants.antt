-- `rounds::unlit::lowest_unlit` meets its contract. No place before this one is unlit and of the direction. Assumes nothing.
use mathlib.Core.Bool.{false, ◌&&◌}
use Rattle.basis.proofs.Scan.{Passed}
use Rattle.lightpath.specs.Place.{direction_of, same_direction}
use Rattle.slots.specs.Slot.{is_unlit}
use Rattle.channels.specs.Channels.{at}
use Rattle.rounds.proofs.unlit.lowest_unlit.Given as goal

abbrev pub invariant-loop-place : goal.invariant-loop-place
invariant-loop-place l = Passed (λ q. is_unlit (at l.fn.channels q) && same_direction (direction_of q) l.direction) false l.place
