-- `hex_text::put_hex` meets its contract: what is still to be written is the bytes from the position on. Assumes nothing.
use Rattle.hex_text.proofs.Writing.{Hexing}
use Rattle.hex_text.proofs.put_hex.Given as goal

abbrev pub invariant-loop-byte : goal.invariant-loop-byte
invariant-loop-byte l = Hexing l.bytes l.initial.out l.at l.out l.next l.byte-index
