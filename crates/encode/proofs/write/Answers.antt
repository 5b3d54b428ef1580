-- `encode::write` meets its contract. Assumes nothing.
use borrow.Author.Rules.{rules}
use Rattle.encode.proofs.Answers.{broken_rules}
use Rattle.encode.proofs.write.Goals as goal

pub returns-then-not-meets_rules : goal.returns-then-not-meets_rules
returns-then-not-meets_rules c = search (rules, broken_rules)

pub write_valid-requires : goal.write_valid-requires
write_valid-requires c = search (rules, broken_rules)
