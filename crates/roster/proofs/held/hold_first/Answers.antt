-- `roster::hold_first` meets its contract. Assumes nothing.
use Rattle.std.proofs.Common.{rules}
use Rattle.roster.proofs.Holding.{holding}
use Rattle.roster.proofs.held.hold_first.Goals as goal

pub file_all-count-requires : goal.file_all-count-requires
file_all-count-requires c = search (rules, holding)

pub returns : goal.returns
returns c = search (rules, holding)
