-- `encode::places::circuits_length` meets its contract: the circuits of the places before this one take `sum` bytes. Assumes nothing.
use borrow.Author.Rules.{rules}
use Rattle.encode.proofs.Lengths.{measured}
use Rattle.encode.proofs.places.circuits_length.Goals as goal

pub loop-channel-preserved : goal.loop-channel-preserved
loop-channel-preserved c = search (rules, measured)

pub returns : goal.returns
returns c = search (rules, measured)
