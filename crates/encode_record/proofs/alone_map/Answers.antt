-- `encode_record::alone_map` meets its contract. Assumes nothing.
use borrow.Author.Rules.{rules}
use Rattle.encode_record.proofs.Records.{alone_map}
use Rattle.encode_record.proofs.alone_map.Goals as goal

pub returns : goal.returns
returns c = search (rules, alone_map)
