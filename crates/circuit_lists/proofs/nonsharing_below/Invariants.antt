-- `circuit_lists::nonsharing_below` meets its contract: the first count of the list are the nonsharing circuits of the places so far.
-- Assumes nothing.
use Prim.Native.Nat.{◌+◌, ◌≤◌}
use Rattle.limits.specs.Limits.{place_count}
use Rattle.circuit_lists.proofs.Gathering.{Gathered, alone_at}
use Rattle.circuit_lists.proofs.nonsharing_below.Given as goal

abbrev pub invariant-loop-place : goal.invariant-loop-place
invariant-loop-place l = (l.count ≤ l.place) × Gathered (alone_at l.channel-items) (place_count + 1) l.list l.count l.place
