-- `lit_words::Lit::lowest_unlit_in` meets its contract. Assumes nothing.
use borrow.Author.Rules.{rules}
use Rattle.lit_words.proofs.Ways.{lowest_below}
use Rattle.lit_words.proofs.Lit.lowest_unlit_in.Goals as goal

pub returns : goal.returns
returns c = search (rules, lowest_below)
