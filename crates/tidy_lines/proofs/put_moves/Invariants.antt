-- `tidy_lines::put_moves` meets its contract: what is still to be printed is the records from `record-index` on. Assumes nothing.
use Rattle.tidy_lines.proofs.Moves.{Moving}
use Rattle.tidy_lines.proofs.put_moves.Given as goal

abbrev pub invariant-loop-record : goal.invariant-loop-record
invariant-loop-record l = Moving l.records l.initial.out l.at l.out l.next l.record-index
