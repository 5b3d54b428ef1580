-- `lit_words::Lit::count` meets its contract. Assumes nothing.
use borrow.Author.Rules.{rules}
use Rattle.lit_words.specs.Lit.{ones_of}
use Rattle.lit_words.proofs.LitBits.{lit_count}
use Rattle.lit_words.proofs.Lit.count.Goals as goal

pub returns : goal.returns
unfolding ones_of
returns c = lit_count _ (search rules) (search rules)
