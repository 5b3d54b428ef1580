-- `encode_record::circuit::put_circuit` meets its contract. Assumes nothing.
use borrow.Author.Rules.{rules}
use Rattle.encode_record.proofs.Circuits.{circuit_rules}
use Rattle.encode_record.proofs.circuit.put_circuit.Goals as goal

pub put_plain-optional-requires : goal.put_plain-optional-requires
put_plain-optional-requires c = search (rules, circuit_rules)

pub put_optional_fields-requires : goal.put_optional_fields-requires
put_optional_fields-requires c = search (rules, circuit_rules)

pub returns : goal.returns
returns c = search (rules, circuit_rules)
