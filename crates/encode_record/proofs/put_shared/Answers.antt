-- `encode_record::put_shared` meets its contract. Assumes nothing.
use borrow.Author.Rules.{rules}
use Rattle.encode_record.proofs.Records.{second_room, shared_rules}
use Rattle.encode_record.proofs.put_shared.Goals as goal

pub put_byte-first-requires : goal.put_byte-first-requires
put_byte-first-requires c = search (rules, shared_rules)

pub put_circuit-second-requires : goal.put_circuit-second-requires
put_circuit-second-requires c = search (rules, shared_rules)

pub put_circuit-requires : goal.put_circuit-requires
put_circuit-requires c = search second_room

pub returns : goal.returns
returns c = search (rules, shared_rules)
