-- `roster_rows::gather` meets its contract. Assumes nothing.
use Rattle.std.proofs.Common.{rules}
use Rattle.roster_rows.proofs.Gathering.{gathering}
use Rattle.roster_rows.proofs.gather.Goals as goal

pub loop-i-preserved : goal.loop-i-preserved
loop-i-preserved c = search (rules, gathering)
