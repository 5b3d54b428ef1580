-- `picture::put_some` meets its contract: so many rows are put. Assumes nothing.
use Prim.Native.Nat.{◌+◌, ◌*◌, ◌≤◌}
use mathlib.Core.Path.{◌≡◌}
use lib.ListN.{length}
use Rattle.buffer.specs.Appended.{Extends}
use Rattle.picture.specs.Room.{row_room}
use Rattle.picture.proofs.put_some.Given as goal

abbrev pub invariant-loop-row : goal.invariant-loop-row
invariant-loop-row l = Extends l.initial.out l.at l.out l.next × (l.next ≤ l.at + row_room * l.row-index) × (length l.out ≡ length l.initial.out)
