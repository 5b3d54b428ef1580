-- `Roster::of_valid` meets its contract. Assumes nothing.
use Rattle.roster.proofs.Holding.{made_arranged, made_back}
use Rattle.roster.proofs.Roster.of_valid.Goals as goal

pub returns-clause-roster : goal.returns-clause-roster
returns-clause-roster c = made_arranged _ c.requires _ _ _ c.hold_first-heading.ensures

pub returns-clause-back : goal.returns-clause-back
returns-clause-back c = made_back _ c.requires _ _ _ c.hold_first-heading.ensures
