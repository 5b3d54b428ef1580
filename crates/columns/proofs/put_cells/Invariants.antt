-- `columns::put_cells` meets its contract: the cells so far are put. Assumes nothing.
use Prim.Native.Nat.{◌+◌, ◌*◌, ◌≤◌}
use mathlib.Core.Path.{◌≡◌}
use lib.ListN.{length}
use Rattle.buffer.specs.Appended.{Extends}
use Rattle.columns.specs.Columns.{cell_room}
use Rattle.columns.proofs.put_cells.Given as goal

abbrev pub invariant-loop-number : goal.invariant-loop-number
invariant-loop-number l = Extends l.initial.out l.at l.out l.next × (l.next ≤ l.at + cell_room * l.number-index) × (length l.out ≡ length l.initial.out)
