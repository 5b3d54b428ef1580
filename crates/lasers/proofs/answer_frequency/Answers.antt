-- `lasers::answer_frequency` meets its contract. Assumes nothing.
use borrow.Author.Rules.{rules}
use Rattle.lasers.proofs.Words.{lines}
use Rattle.lasers.proofs.answer_frequency.Goals as goal

pub returns : goal.returns
returns c = search (rules, lines)
