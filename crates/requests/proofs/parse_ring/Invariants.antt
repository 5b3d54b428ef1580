-- `requests::parse_ring` meets its contract. The loop's invariant: the ports read so far are those of the words up to the position. Assumes nothing.
use Prim.Native.Nat.{◌-◌}
use lib.ListN.{length}
use Rattle.requests.proofs.Ports.{Porting}
use Rattle.requests.proofs.parse_ring.Given as goal

abbrev pub invariant-loop-next : goal.invariant-loop-next
invariant-loop-next l = Porting l.line l.at l.nodes l.ports l.count l.next

abbrev pub decreases-loop-next : goal.decreases-loop-next
decreases-loop-next l = length l.line - l.next
