-- `tidy_lines::put_moves` meets its contract: what is still to be printed is the records from `record-index` on. Assumes nothing.
use borrow.Author.Rules.{rules}
use Rattle.tidy_lines.proofs.Moves.{moving}
use Rattle.tidy_lines.proofs.put_moves.Goals as goal

pub loop-record-init : goal.loop-record-init
loop-record-init c = search (rules, moving)

pub put_move-next-requires : goal.put_move-next-requires
put_move-next-requires c = search (rules, moving)

pub loop-record-preserved : goal.loop-record-preserved
loop-record-preserved c = search (rules, moving)

pub returns : goal.returns
returns c = search (rules, moving)
