-- `byte_numbers::put_number` meets its contract. Assumes nothing.
use borrow.Author.Rules.{rules}
use Rattle.byte_numbers.proofs.NumbersWritten.{number_rules}
use Rattle.byte_numbers.proofs.put_number.Goals as goal

pub put_text-requires : goal.put_text-requires
put_text-requires c = search (rules, number_rules)

pub returns : goal.returns
returns c = search (rules, number_rules)
