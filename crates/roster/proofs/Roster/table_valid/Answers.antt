-- `Roster::table_valid` meets its contract. Assumes nothing.
use Rattle.std.proofs.Common.{rules}
use Rattle.roster.specs.Roster.{table_of}
use Rattle.roster.proofs.Roster.table_valid.Goals as goal

pub returns : goal.returns
unfolding table_of
returns c = search rules
