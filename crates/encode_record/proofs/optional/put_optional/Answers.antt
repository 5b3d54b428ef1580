-- `encode_record::optional::put_optional` meets its contract. Assumes nothing.
use borrow.Author.Rules.{rules}
use Rattle.encode_record.proofs.Circuits.{optional_rules}
use Rattle.encode_record.proofs.optional.put_optional.Goals as goal

pub returns-then-value-eq0 : goal.returns-then-value-eq0
returns-then-value-eq0 c = search (rules, optional_rules)

pub put_number-requires : goal.put_number-requires
put_number-requires c = search (rules, optional_rules)

pub returns-else-value-eq0 : goal.returns-else-value-eq0
returns-else-value-eq0 c = search (rules, optional_rules)
