-- `encode_record::put_alone` meets its contract. Assumes nothing.
use borrow.Author.Rules.{rules}
use Rattle.encode_record.proofs.Records.{alone_rules}
use Rattle.encode_record.proofs.put_alone.Goals as goal

pub put_byte-first-requires : goal.put_byte-first-requires
put_byte-first-requires c = search (rules, alone_rules)

pub put_circuit-requires : goal.put_circuit-requires
put_circuit-requires c = search (rules, alone_rules)

pub returns : goal.returns
returns c = search (rules, alone_rules)
