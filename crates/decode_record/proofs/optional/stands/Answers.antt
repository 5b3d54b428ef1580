-- `decode_record::optional::stands` meets its contract. Assumes nothing.
use borrow.Author.Rules.{rules}
use Rattle.lit_words.specs.Lit.{bit_of}
use Rattle.decode_record.proofs.optional.stands.Goals as goal

pub returns : goal.returns
unfolding bit_of
returns c = search rules
