-- `node_lines::arrivals` meets its contract: the places below an index are copied. Assumes nothing.
use Rattle.node_lines.proofs.Copying.{Copying}
use Rattle.node_lines.proofs.arrivals.Given as goal

abbrev pub invariant-loop-place : goal.invariant-loop-place
invariant-loop-place l = Copying l.node l.channel-items l.left l.place
