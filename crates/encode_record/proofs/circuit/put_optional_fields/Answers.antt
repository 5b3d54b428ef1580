-- `encode_record::circuit::put_optional_fields` meets its contract. Assumes nothing.
use borrow.Author.Rules.{rules}
use Rattle.encode_record.proofs.Circuits.{field_rules}
use Rattle.encode_record.proofs.circuit.put_optional_fields.Goals as goal

pub put_optional-account-requires : goal.put_optional-account-requires
put_optional-account-requires c = search (rules, field_rules)

pub put_optional-requires : goal.put_optional-requires
put_optional-requires c = search (rules, field_rules)

pub returns : goal.returns
returns c = search (rules, field_rules)
