-- `ring_bench::lookups::with_rows` meets its contract: the rows of the nodes up to `node` are summed. Assumes nothing.
use Rattle.rows.proofs.Held.{held}
use Rattle.ring_bench.proofs.Rowed.{rows_all, rowed}
use borrow.Author.Rules.{rules}
use Rattle.ring_bench.proofs.lookups.with_rows.Goals as goal

pub loop-node-init : goal.loop-node-init
loop-node-init c = search (rules, held, rows_all, rowed)

pub row_of-row-requires : goal.row_of-row-requires
row_of-row-requires c = search (rules, held, rows_all, rowed)

pub offset_bounds-keys-row : goal.offset_bounds-keys-row
offset_bounds-keys-row c = search (rules, held, rows_all, rowed)

pub slice_bounds-with_row-count : goal.slice_bounds-with_row-count
slice_bounds-with_row-count c = search (rules, held, rows_all, rowed)

pub slice_bounds-with_row-start : goal.slice_bounds-with_row-start
slice_bounds-with_row-start c = search (rules, held, rows_all, rowed)

pub slice_bounds-with_row-end : goal.slice_bounds-with_row-end
slice_bounds-with_row-end c = search (rules, held, rows_all, rowed)

pub offset_bounds-rests-row : goal.offset_bounds-rests-row
offset_bounds-rests-row c = search (rules, held, rows_all, rowed)

pub slice_bounds-with_row-count-in-loop-node : goal.slice_bounds-with_row-count-in-loop-node
slice_bounds-with_row-count-in-loop-node c = search (rules, held, rows_all, rowed)

pub slice_bounds-with_row-start-in-loop-node : goal.slice_bounds-with_row-start-in-loop-node
slice_bounds-with_row-start-in-loop-node c = search (rules, held, rows_all, rowed)

pub slice_bounds-with_row-end-in-loop-node : goal.slice_bounds-with_row-end-in-loop-node
slice_bounds-with_row-end-in-loop-node c = search (rules, held, rows_all, rowed)

pub loop-node-preserved : goal.loop-node-preserved
loop-node-preserved c = search (rules, held, rows_all, rowed)

pub returns : goal.returns
returns c = search (rules, held, rows_all, rowed)
