-- `decode_record::read_place` meets its contract. Assumes nothing.
use borrow.Author.Rules.{rules}
use Rattle.decode_record.proofs.Records.{place_rules}
use Rattle.decode_record.proofs.read_place.Goals as goal

pub returns-then-lit : goal.returns-then-lit
returns-then-lit c = search (rules, place_rules)

pub returns-else-lit : goal.returns-else-lit
returns-else-lit c = search (rules, place_rules)
