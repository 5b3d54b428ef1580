-- `roster_rows::row_valid` meets its contract. Assumes nothing.
use Rattle.std.proofs.Common.{◌≡◌, true, false}
use Rattle.lightpath.specs.Circuit.{on_ring}
use Rattle.roster_rows.proofs.Lookups.{row_off, row_there, looking}
use borrow.Author.Rules.{rules}
use Rattle.roster_rows.proofs.row_valid.Goals as goal

pub slice_bounds-keys-end : goal.slice_bounds-keys-end
slice_bounds-keys-end c = search (rules, looking)

pub slice_bounds-row_of-end : goal.slice_bounds-row_of-end
slice_bounds-row_of-end c = search (rules, looking)

pub row_of-row-requires : goal.row_of-row-requires
row_of-row-requires c = search (rules, looking)

pub offset_bounds-keys-row : goal.offset_bounds-keys-row
offset_bounds-keys-row c = search (rules, looking)

pub slice_bounds-gather-count : goal.slice_bounds-gather-count
slice_bounds-gather-count c = search (rules, looking)

pub slice_bounds-gather-start : goal.slice_bounds-gather-start
slice_bounds-gather-start c = search (rules, looking)

pub slice_bounds-gather-end : goal.slice_bounds-gather-end
slice_bounds-gather-end c = search (rules, looking)

pub offset_bounds-rests-row : goal.offset_bounds-rests-row
offset_bounds-rests-row c = search (rules, looking)

pub slice_bounds-gather-count-2 : goal.slice_bounds-gather-count-2
slice_bounds-gather-count-2 c = search (rules, looking)

pub slice_bounds-gather-start-2 : goal.slice_bounds-gather-start-2
slice_bounds-gather-start-2 c = search (rules, looking)

pub slice_bounds-gather-end-2 : goal.slice_bounds-gather-end-2
slice_bounds-gather-end-2 c = search (rules, looking)

pub gather-list-requires : goal.gather-list-requires
gather-list-requires c = search (rules, looking)

pub overflow_sub-result : goal.overflow_sub-result
overflow_sub-result c = search (rules, looking)

pub returns-then-not-on_ring-clause-answer : goal.returns-then-not-on_ring-clause-answer
returns-then-not-on_ring-clause-answer c =
    let off : on_ring c.args.roster.heading.nodes c.args.node ≡ false = search (rules, looking) in
    (row_off c.args.roster c.args.node c.requires off _ c.no_row.ensures).0

pub returns-then-not-on_ring-clause-numbers : goal.returns-then-not-on_ring-clause-numbers
returns-then-not-on_ring-clause-numbers c =
    let off : on_ring c.args.roster.heading.nodes c.args.node ≡ false = search (rules, looking) in
    (row_off c.args.roster c.args.node c.requires off _ c.no_row.ensures).1

pub returns-clause-answer : goal.returns-clause-answer
returns-clause-answer c =
    let on : on_ring c.args.roster.heading.nodes c.args.node ≡ true = search (rules, looking) in
    (row_there c.args.roster c.args.node c.requires on _ c.row_of-row.ensures _ c.gather-list.ensures).0

pub returns-clause-numbers : goal.returns-clause-numbers
returns-clause-numbers c =
    let on : on_ring c.args.roster.heading.nodes c.args.node ≡ true = search (rules, looking) in
    (row_there c.args.roster c.args.node c.requires on _ c.row_of-row.ensures _ c.gather-list.ensures).1
