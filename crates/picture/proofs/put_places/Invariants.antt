-- `picture::put_places` meets its contract: the rows of the places below are put. Assumes nothing.
use Prim.Native.Nat.{◌+◌, ◌*◌, ◌≤◌}
use mathlib.Core.Path.{◌≡◌}
use lib.ListN.{length}
use Rattle.limits.specs.Limits.{place_count}
use Rattle.buffer.specs.Appended.{Extends}
use Rattle.picture.specs.Room.{row_room}
use Rattle.picture.proofs.put_places.Given as goal

abbrev pub invariant-loop-place : goal.invariant-loop-place
invariant-loop-place l = Extends l.initial.out l.at l.out l.next × (l.next ≤ l.at + row_room * l.place) × (l.place-end ≤ place_count) × (length l.out ≡ length l.initial.out)
