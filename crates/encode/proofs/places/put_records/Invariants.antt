-- `encode::places::put_records` meets its contract: the records of the places from this one on are still to be written. Assumes nothing.
use Rattle.encode.proofs.Records.{Recording}
use Rattle.encode.proofs.places.put_records.Given as goal

abbrev pub invariant-loop-channel : goal.invariant-loop-channel
invariant-loop-channel l = Recording l.initial.out l.start l.channels l.channel-index l.out l.at
