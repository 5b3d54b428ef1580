-- `rules::tallies::PortCounts::enough` meets its contract. Assumes nothing.
use Rattle.std.proofs.Common.{rules}
use Rattle.basis.proofs.Scan.{scan}
use Rattle.rules.proofs.tallies.PortCounts.enough.Goals as goal

pub loop-i-init : goal.loop-i-init
loop-i-init c = search (rules, scan)

pub returns-then-not-count_enough : goal.returns-then-not-count_enough
returns-then-not-count_enough c = search (rules, scan)

pub loop-i-preserved : goal.loop-i-preserved
loop-i-preserved c = search (rules, scan)

pub returns : goal.returns
returns c = search (rules, scan)
