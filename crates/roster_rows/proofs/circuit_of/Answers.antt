-- `roster_rows::circuit_of` meets its contract. Assumes nothing.
use Rattle.std.proofs.Common.{◌≡◌, false}
use Rattle.roster.specs.Roster.{stands}
use Rattle.roster_rows.proofs.Lookups.{circuit_fails, looking}
use borrow.Author.Rules.{rules}
use Rattle.roster_rows.proofs.circuit_of.Goals as goal

pub circuit_of_valid-requires : goal.circuit_of_valid-requires
circuit_of_valid-requires c = search (rules, looking)

pub returns-then-not-stands-clause-answer : goal.returns-then-not-stands-clause-answer
returns-then-not-stands-clause-answer c =
    let fails : stands c.args.roster ≡ false = search (rules, looking) in
    (circuit_fails c.args.roster c.args.node fails c.args.number).0

pub returns-then-not-stands-clause-numbers : goal.returns-then-not-stands-clause-numbers
returns-then-not-stands-clause-numbers c =
    let fails : stands c.args.roster ≡ false = search (rules, looking) in
    (circuit_fails c.args.roster c.args.node fails c.args.number).1
