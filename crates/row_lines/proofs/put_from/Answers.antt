-- `row_lines::put_from` meets its contract: the entries from the start of the node's row to its end are its own. Assumes nothing.
use borrow.Author.Rules.{rules}
use Rattle.rows.proofs.Held.{held}
use Rattle.row_lines.proofs.Words.{from}
use Rattle.row_lines.proofs.put_from.Goals as goal

pub returns-then-not-on_ring : goal.returns-then-not-on_ring
returns-then-not-on_ring c = search (rules, held, from)

pub row_of-row-requires : goal.row_of-row-requires
row_of-row-requires c = search (rules, held, from)

pub offset_bounds-keys-row : goal.offset_bounds-keys-row
offset_bounds-keys-row c = search (rules, held, from)

pub slice_bounds-put_row-count : goal.slice_bounds-put_row-count
slice_bounds-put_row-count c = search (rules, held, from)

pub slice_bounds-put_row-start : goal.slice_bounds-put_row-start
slice_bounds-put_row-start c = search (rules, held, from)

pub slice_bounds-put_row-end : goal.slice_bounds-put_row-end
slice_bounds-put_row-end c = search (rules, held, from)

pub offset_bounds-rests-row : goal.offset_bounds-rests-row
offset_bounds-rests-row c = search (rules, held, from)

pub slice_bounds-put_row-count-2 : goal.slice_bounds-put_row-count-2
slice_bounds-put_row-count-2 c = search (rules, held, from)

pub slice_bounds-put_row-start-2 : goal.slice_bounds-put_row-start-2
slice_bounds-put_row-start-2 c = search (rules, held, from)

pub slice_bounds-put_row-end-2 : goal.slice_bounds-put_row-end-2
slice_bounds-put_row-end-2 c = search (rules, held, from)

pub put_row-requires : goal.put_row-requires
put_row-requires c = search (rules, held, from)

pub returns : goal.returns
returns c = search (rules, held, from)
