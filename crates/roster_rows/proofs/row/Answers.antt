-- `roster_rows::row` meets its contract. Assumes nothing.
use Rattle.std.proofs.Common.{◌≡◌, false}
use Rattle.roster.specs.Roster.{stands}
use Rattle.roster_rows.proofs.Lookups.{row_fails, looking}
use borrow.Author.Rules.{rules}
use Rattle.roster_rows.proofs.row.Goals as goal

pub row_valid-requires : goal.row_valid-requires
row_valid-requires c = search (rules, looking)

pub returns-then-not-stands-clause-answer : goal.returns-then-not-stands-clause-answer
returns-then-not-stands-clause-answer c =
    let fails : stands c.args.roster ≡ false = search (rules, looking) in
    (row_fails c.args.roster c.args.node fails _ c.no_row.ensures).0

pub returns-then-not-stands-clause-numbers : goal.returns-then-not-stands-clause-numbers
returns-then-not-stands-clause-numbers c =
    let fails : stands c.args.roster ≡ false = search (rules, looking) in
    (row_fails c.args.roster c.args.node fails _ c.no_row.ensures).1
