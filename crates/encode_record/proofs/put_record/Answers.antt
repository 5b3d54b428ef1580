-- `encode_record::put_record` meets its contract. Assumes nothing.
use borrow.Author.Rules.{rules}
use Rattle.encode_record.proofs.Records.{record_rules}
use Rattle.encode_record.proofs.put_record.Goals as goal

pub put_alone-requires : goal.put_alone-requires
put_alone-requires c = search (rules, record_rules)

pub put_shared-requires : goal.put_shared-requires
put_shared-requires c = search (rules, record_rules)

pub returns-in-Unlit : goal.returns-in-Unlit
returns-in-Unlit c = search (rules, record_rules)

pub returns-in-Alone : goal.returns-in-Alone
returns-in-Alone c = search (rules, record_rules)

pub returns-in-Shared : goal.returns-in-Shared
returns-in-Shared c = search (rules, record_rules)
