-- `lit_words::Lit::is_lit` meets its contract. Assumes nothing.
use borrow.Author.Rules.{rules}
use Rattle.basis.proofs.Branch.{branch}
use Rattle.lit_words.specs.Lit.{bit_of, lit_bit}
use Rattle.lit_words.proofs.Lit.is_lit.Goals as goal

pub returns-then-place-lt64 : goal.returns-then-place-lt64
unfolding bit_of lit_bit
returns-then-place-lt64 c = search (rules, branch)

pub returns-else-place-lt64 : goal.returns-else-place-lt64
unfolding bit_of lit_bit
returns-else-place-lt64 c = search (rules, branch)
