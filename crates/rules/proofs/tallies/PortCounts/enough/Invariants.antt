-- `rules::tallies::PortCounts::enough` meets its contract. Assumes nothing.
-- the nodes before i have ports enough
use mathlib.Core.Bool.{true}
use Rattle.basis.proofs.Scan.{Passed}
use Rattle.rules.specs.Tallies.{enough_at}
use Rattle.rules.proofs.tallies.PortCounts.enough.Given as goal

abbrev pub invariant-loop-i : goal.invariant-loop-i
invariant-loop-i l = Passed (enough_at l.count-items l.self.sent l.self.received) true l.i
