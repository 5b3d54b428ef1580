-- `byte_numbers::read_word` meets its contract: of the eight bytes those from i on are in the word. Assumes nothing.
use borrow.Author.Rules.{rules}
use Rattle.byte_numbers.proofs.WordsRead.{gathered}
use Rattle.byte_numbers.proofs.read_word.Goals as goal

pub loop-i-init : goal.loop-i-init
loop-i-init c = search (rules, gathered)

pub with_byte-word-requires : goal.with_byte-word-requires
with_byte-word-requires c = search (rules, gathered)

pub loop-i-preserved : goal.loop-i-preserved
loop-i-preserved c = search (rules, gathered)

pub returns : goal.returns
returns c = search (rules, gathered)
