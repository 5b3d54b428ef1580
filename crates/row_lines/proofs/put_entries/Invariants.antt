-- `row_lines::put_entries` meets its contract: what is still to be printed is the entries that the iterator has left. Assumes nothing.
use Rattle.row_lines.proofs.Entries.{Sending}
use Rattle.row_lines.proofs.put_entries.Given as goal

abbrev pub invariant-loop-key : goal.invariant-loop-key
invariant-loop-key l = Sending l.listed l.keys l.rests l.initial.out l.at l.out l.next l.key-iterator.a.rest.now l.key-iterator.b.rest.now
