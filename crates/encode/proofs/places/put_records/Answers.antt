-- `encode::places::put_records` meets its contract: the records of the places from this one on are still to be written. Assumes nothing.
use borrow.Author.Rules.{rules}
use Rattle.encode.proofs.Records.{recording}
use Rattle.encode.proofs.places.put_records.Goals as goal

pub put_record-at-requires : goal.put_record-at-requires
put_record-at-requires c = search (rules, recording)

pub loop-channel-preserved : goal.loop-channel-preserved
loop-channel-preserved c = search (rules, recording)

pub returns : goal.returns
returns c = search (rules, recording)
