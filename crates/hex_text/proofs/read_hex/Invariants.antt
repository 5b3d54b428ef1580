-- `hex_text::read_hex` meets its contract: the digits of the first bytes are read. Assumes nothing.
use Rattle.hex_text.proofs.Reading.{Read}
use Rattle.hex_text.proofs.read_hex.Given as goal

abbrev pub invariant-loop-i : goal.invariant-loop-i
invariant-loop-i l = Read l.word l.initial.out l.out l.i
