-- `encode_record::shared_map` meets its contract. Assumes nothing.
use borrow.Author.Rules.{rules}
use Rattle.encode_record.proofs.Records.{shared_map}
use Rattle.encode_record.proofs.shared_map.Goals as goal

pub returns : goal.returns
returns c = search (rules, shared_map)
