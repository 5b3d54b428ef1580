-- `encode_record::slot_length` meets its contract. Assumes nothing.
use borrow.Author.Rules.{rules}
use Rattle.encode_record.proofs.Lengths.{lengths}
use Rattle.encode_record.proofs.slot_length.Goals as goal

pub returns-in-Unlit : goal.returns-in-Unlit
returns-in-Unlit c = search (rules, lengths)

pub returns-in-Alone : goal.returns-in-Alone
returns-in-Alone c = search (rules, lengths)

pub returns-in-Shared : goal.returns-in-Shared
returns-in-Shared c = search (rules, lengths)
