-- `byte_numbers::number_of` meets its contract: the value is the number of the bytes before this one. Assumes nothing.
use borrow.Author.Rules.{rules}
use Rattle.byte_numbers.proofs.NumbersRead.{numbering}
use Rattle.byte_numbers.proofs.number_of.Goals as goal

pub loop-byte-init : goal.loop-byte-init
loop-byte-init c = search (rules, numbering)

pub with_byte-value-requires : goal.with_byte-value-requires
with_byte-value-requires c = search (rules, numbering)

pub loop-byte-preserved : goal.loop-byte-preserved
loop-byte-preserved c = search (rules, numbering)

pub overflow_cast-result : goal.overflow_cast-result
overflow_cast-result c = search (rules, numbering)

pub returns : goal.returns
returns c = search (rules, numbering)
