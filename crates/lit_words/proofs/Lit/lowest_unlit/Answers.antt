-- `lit_words::Lit::lowest_unlit` meets its contract. Assumes nothing.
use borrow.Author.Rules.{rules}
use Rattle.lit_words.proofs.LitBits.{unlit_low, unlit_high}
use Rattle.lit_words.proofs.Lit.lowest_unlit.Goals as goal

pub returns-then-low-lt64 : goal.returns-then-low-lt64
returns-then-low-lt64 c = search (rules, unlit_low)

pub returns-else-low-lt64 : goal.returns-else-low-lt64
returns-else-low-lt64 c = search (rules, unlit_high)
