-- `encode_record::optional::optional_length` meets its contract. Assumes nothing.
use borrow.Author.Rules.{rules}
use Rattle.encode_record.proofs.Lengths.{optional_lengths}
use Rattle.encode_record.proofs.optional.optional_length.Goals as goal

pub returns-then-value-eq0 : goal.returns-then-value-eq0
returns-then-value-eq0 c = search (rules, optional_lengths)

pub returns-else-value-eq0 : goal.returns-else-value-eq0
returns-else-value-eq0 c = search (rules, optional_lengths)
