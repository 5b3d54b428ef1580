-- `node_lines::put_to` meets its contract: the entries of the places that hold the circuits to the node alone. Assumes nothing.
use borrow.Author.Rules.{rules}
use Rattle.node_lines.proofs.To.{received}
use Rattle.node_lines.proofs.put_to.Goals as goal

pub returns-then-not-on_ring : goal.returns-then-not-on_ring
returns-then-not-on_ring c = search (rules, received)

pub file_all-count-requires : goal.file_all-count-requires
file_all-count-requires c = search (rules, received)

pub slice_bounds-put_row-end : goal.slice_bounds-put_row-end
slice_bounds-put_row-end c = search (rules, received)

pub slice_bounds-put_row-end-2 : goal.slice_bounds-put_row-end-2
slice_bounds-put_row-end-2 c = search (rules, received)

pub put_row-requires : goal.put_row-requires
put_row-requires c = search (rules, received)

pub returns : goal.returns
returns c = search (rules, received)
