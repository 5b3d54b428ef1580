-- `encode_record::circuit::put_plain` meets its contract. Assumes nothing.
use borrow.Author.Rules.{rules}
use Rattle.encode_record.proofs.Circuits.{plain_rules}
use Rattle.encode_record.proofs.circuit.put_plain.Goals as goal

pub put_number-source-requires : goal.put_number-source-requires
put_number-source-requires c = search (rules, plain_rules)

pub put_byte-destination-requires : goal.put_byte-destination-requires
put_byte-destination-requires c = search (rules, plain_rules)

pub put_byte-requires : goal.put_byte-requires
put_byte-requires c = search (rules, plain_rules)

pub returns : goal.returns
returns c = search (rules, plain_rules)
