-- `byte_numbers::put_map` meets its contract. Assumes nothing.
use borrow.Author.Rules.{rules}
use Rattle.byte_numbers.proofs.WordsWritten.{words_rules}
use Rattle.byte_numbers.proofs.put_map.Goals as goal

pub put_word-next-requires : goal.put_word-next-requires
put_word-next-requires c = search (rules, words_rules)

pub put_word-requires : goal.put_word-requires
put_word-requires c = search (rules, words_rules)

pub returns : goal.returns
returns c = search (rules, words_rules)
