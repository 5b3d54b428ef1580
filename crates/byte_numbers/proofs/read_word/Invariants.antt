-- `byte_numbers::read_word` meets its contract: of the eight bytes those from i on are in the word. Assumes nothing.
use Rattle.byte_numbers.proofs.WordsRead.{Gathered}
use Rattle.byte_numbers.proofs.read_word.Given as goal

abbrev pub invariant-loop-i : goal.invariant-loop-i
invariant-loop-i l = Gathered l.form l.start l.first l.i l.word
