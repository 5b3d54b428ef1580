-- `circuit_lists::circuits_of` meets its contract: the first count of the list are the circuits of the places so far. Assumes nothing.
use Prim.Native.Nat.{◌*◌, ◌≤◌}
use Rattle.limits.specs.Limits.{circuit_room}
use Rattle.circuit_lists.proofs.Gathering.{Gathered, circuits_at}
use Rattle.circuit_lists.proofs.circuits_of.Given as goal

abbrev pub invariant-loop-channel : goal.invariant-loop-channel
invariant-loop-channel l =
    (l.count ≤ 2 * l.channel-index) × Gathered (circuits_at l.channel-items) circuit_room l.list l.count l.channel-index
