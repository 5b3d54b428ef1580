-- `roster_open::close_in` meets its contract. Assumes nothing.
use Rattle.std.proofs.Common.{rules, arith}
use Rattle.std.proofs.lemmas.List.{length-take}
use Rattle.roster_open.proofs.Calls.{closing}
use Rattle.roster_open.proofs.close.close_in.Goals as goal

pub returns-in_default : goal.returns-in_default
returns-in_default c = let none = c.in_default.ensures in search (rules, closing)

pub slice_bounds-find_number-end : goal.slice_bounds-find_number-end
slice_bounds-find_number-end c = search (rules, closing)

pub slice_bounds-find_number-end-2 : goal.slice_bounds-find_number-end-2
slice_bounds-find_number-end-2 c = search (rules, closing)

pub take_out-requires : goal.take_out-requires
take_out-requires c =
    let found = c.in-Some.ensures in
    (omega (arith, length-take c.args.heading.count c.args.keys.now, found), search (rules, closing))

pub take_out-requires-2 : goal.take_out-requires-2
take_out-requires-2 c =
    let found = c.in-Some.ensures in
    (omega (arith, length-take c.args.heading.count c.args.keys.now, found), search (rules, closing))

pub returns : goal.returns
returns c = let found = c.in-Some.ensures in search (rules, closing)
