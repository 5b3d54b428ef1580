-- `roster_calls::decide_valid` meets its contract. Assumes nothing.
use Rattle.roster_calls.proofs.Opens.{opens_valid}
use borrow.Author.Rules.{rules}
use Rattle.roster_calls.proofs.Standing.{standing}
use Rattle.roster_calls.proofs.opening.decide_valid.Goals as goal

pub open_in-opened-requires : goal.open_in-opened-requires
open_in-opened-requires c = search (rules, standing)

pub returns-clause-answer : goal.returns-clause-answer
returns-clause-answer c = (opens_valid c.args.roster c.args.circuit c.args.lent c.requires _ _ _ c.open_in-opened.ensures).0

pub returns-clause-numbers : goal.returns-clause-numbers
returns-clause-numbers c = (opens_valid c.args.roster c.args.circuit c.args.lent c.requires _ _ _ c.open_in-opened.ensures).1.0

pub returns-clause-stands : goal.returns-clause-stands
returns-clause-stands c = (opens_valid c.args.roster c.args.circuit c.args.lent c.requires _ _ _ c.open_in-opened.ensures).1.1.0

pub returns-clause-demand3 : goal.returns-clause-demand3
returns-clause-demand3 c = (opens_valid c.args.roster c.args.circuit c.args.lent c.requires _ _ _ c.open_in-opened.ensures).1.1.1
