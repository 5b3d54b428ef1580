-- `decode_record::optional::read_optional` meets its contract. Assumes nothing.
use borrow.Author.Rules.{rules}
use Rattle.decode_record.proofs.Circuits.{optional_rules}
use Rattle.decode_record.proofs.optional.read_optional.Goals as goal

pub returns-then-not-stands : goal.returns-then-not-stands
returns-then-not-stands c = search (rules, optional_rules)

pub returns-then-form-at : goal.returns-then-form-at
returns-then-form-at c = search (rules, optional_rules)

pub returns-then-value-eq0 : goal.returns-then-value-eq0
returns-then-value-eq0 c = search (rules, optional_rules)

pub returns : goal.returns
returns c = search (rules, optional_rules)
