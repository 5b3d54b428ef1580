-- `print::put_filled` meets its contract. The loop's invariant: what is still to be printed is the words from the byte on, with the numbers
-- left. Assumes nothing.
use Rattle.print.specs.Filled.{filled}
use Rattle.print.proofs.Filling.{Filling}
use Rattle.print.proofs.put_filled.Given as goal

abbrev pub invariant-loop-byte : goal.invariant-loop-byte
invariant-loop-byte l =
    Filling l.words l.initial.out l.at (filled l.words l.initial.a l.initial.b l.initial.c l.d) l.out l.next l.byte-index l.a l.b l.c l.d
