-- `text::read_number` meets its contract. The loop's invariant: the bytes so far are digits, of the value, which is at most the most. Assumes nothing.
use Rattle.text.proofs.Reading.{Reading}
use Rattle.text.proofs.read_number.Given as goal

abbrev pub invariant-loop-byte : goal.invariant-loop-byte
invariant-loop-byte l = Reading l.most l.word l.value l.byte-index
