-- `byte_numbers::put_word` meets its contract. Assumes nothing.
use borrow.Author.Rules.{rules}
use Rattle.byte_numbers.proofs.WordsWritten.{wording}
use Rattle.byte_numbers.proofs.put_word.Goals as goal

pub put_text-requires : goal.put_text-requires
put_text-requires c = search (rules, wording)

pub returns : goal.returns
returns c = search (rules, wording)
