-- `byte_numbers::number_of` meets its contract: the value is the number of the bytes before this one. Assumes nothing.
use Rattle.byte_numbers.proofs.NumbersRead.{Numbering}
use Rattle.byte_numbers.proofs.number_of.Given as goal

abbrev pub invariant-loop-byte : goal.invariant-loop-byte
invariant-loop-byte l = Numbering l.bytes l.value l.byte-index
