-- `words::next_word` meets its contract. Assumes nothing.
use borrow.Author.Rules.{rules}
use Rattle.words.proofs.Fields.{next}
use Rattle.words.proofs.next_word.Goals as goal

pub slice_bounds-result-end : goal.slice_bounds-result-end
slice_bounds-result-end c = search (rules, next)

pub returns : goal.returns
returns c = search (rules, next)
