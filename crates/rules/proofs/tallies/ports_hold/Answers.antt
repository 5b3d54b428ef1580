-- `rules::tallies::ports_hold` meets its contract. Assumes nothing.
use Rattle.std.proofs.Common.{rules}
use Rattle.rules.proofs.InUse.{enough_holds}
use Rattle.rules.proofs.tallies.ports_hold.Goals as goal

pub returns : goal.returns
returns c = search (rules, enough_holds)
