-- `roster_calls::close_valid` meets its contract. Assumes nothing.
use Rattle.roster_calls.proofs.Closes.{closes_valid}
use borrow.Author.Rules.{rules}
use Rattle.roster_calls.proofs.Standing.{standing}
use Rattle.roster_calls.proofs.closing.close_valid.Goals as goal

pub close_in-closed-requires : goal.close_in-closed-requires
close_in-closed-requires c = search (rules, standing)

pub returns-clause-answer : goal.returns-clause-answer
returns-clause-answer c = (closes_valid c.args.roster c.args.number c.requires _ _ _ c.close_in-closed.ensures).0

pub returns-clause-numbers : goal.returns-clause-numbers
returns-clause-numbers c = (closes_valid c.args.roster c.args.number c.requires _ _ _ c.close_in-closed.ensures).1.0

pub returns-clause-stands : goal.returns-clause-stands
returns-clause-stands c = (closes_valid c.args.roster c.args.number c.requires _ _ _ c.close_in-closed.ensures).1.1
