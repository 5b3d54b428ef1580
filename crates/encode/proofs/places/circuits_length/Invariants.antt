-- `encode::places::circuits_length` meets its contract: the circuits of the places before this one take `sum` bytes. Assumes nothing.
use Rattle.encode.proofs.Lengths.{Measured}
use Rattle.encode.proofs.places.circuits_length.Given as goal

abbrev pub invariant-loop-channel : goal.invariant-loop-channel
invariant-loop-channel l = Measured l.channels l.channel-index l.sum
