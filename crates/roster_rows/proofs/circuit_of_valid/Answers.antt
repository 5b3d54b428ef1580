-- `roster_rows::circuit_of_valid` meets its contract. Assumes nothing.
use Rattle.std.proofs.Common.{◌≡◌, true, false}
use Rattle.lightpath.specs.Circuit.{on_ring}
use Rattle.roster_rows.proofs.Lookups.{circuit_off, circuit_none, circuit_there, number_index, looking}
use borrow.Author.Rules.{rules}
use Rattle.roster_rows.proofs.circuit_of_valid.Goals as goal

pub slice_bounds-keys-end : goal.slice_bounds-keys-end
slice_bounds-keys-end c = search (rules, looking)

pub slice_bounds-position-end : goal.slice_bounds-position-end
slice_bounds-position-end c = search (rules, looking)

pub position-requires : goal.position-requires
position-requires c = search (rules, looking)

pub bounds-keys-at : goal.bounds-keys-at
bounds-keys-at c = number_index c.args.roster c.requires c.args.node c.args.number c.ranges.number.fits c.in-Some.at c.in-Some.ensures

pub bounds-rests-at : goal.bounds-rests-at
bounds-rests-at c = number_index c.args.roster c.requires c.args.node c.args.number c.ranges.number.fits c.in-Some.at c.in-Some.ensures

pub returns-then-not-on_ring-clause-answer : goal.returns-then-not-on_ring-clause-answer
returns-then-not-on_ring-clause-answer c =
    let off : on_ring c.args.roster.heading.nodes c.args.node ≡ false = search (rules, looking) in
    (circuit_off c.args.roster c.args.node c.requires off c.args.number).0

pub returns-then-not-on_ring-clause-numbers : goal.returns-then-not-on_ring-clause-numbers
returns-then-not-on_ring-clause-numbers c =
    let off : on_ring c.args.roster.heading.nodes c.args.node ≡ false = search (rules, looking) in
    (circuit_off c.args.roster c.args.node c.requires off c.args.number).1

pub returns-in-None-clause-answer : goal.returns-in-None-clause-answer
returns-in-None-clause-answer c =
    let on : on_ring c.args.roster.heading.nodes c.args.node ≡ true = search (rules, looking) in
    (circuit_none c.args.roster c.args.node c.requires on c.args.number c.ranges.number.fits c.in-None.ensures).0

pub returns-in-None-clause-numbers : goal.returns-in-None-clause-numbers
returns-in-None-clause-numbers c =
    let on : on_ring c.args.roster.heading.nodes c.args.node ≡ true = search (rules, looking) in
    (circuit_none c.args.roster c.args.node c.requires on c.args.number c.ranges.number.fits c.in-None.ensures).1

pub returns-in-Some-clause-answer : goal.returns-in-Some-clause-answer
returns-in-Some-clause-answer c =
    let on : on_ring c.args.roster.heading.nodes c.args.node ≡ true = search (rules, looking) in
    (circuit_there c.args.roster c.args.node c.requires on c.args.number c.ranges.number.fits c.in-Some.at c.in-Some.ensures _ c.entry_of.ensures).0

pub returns-in-Some-clause-numbers : goal.returns-in-Some-clause-numbers
returns-in-Some-clause-numbers c =
    let on : on_ring c.args.roster.heading.nodes c.args.node ≡ true = search (rules, looking) in
    (circuit_there c.args.roster c.args.node c.requires on c.args.number c.ranges.number.fits c.in-Some.at c.in-Some.ensures _ c.entry_of.ensures).1
