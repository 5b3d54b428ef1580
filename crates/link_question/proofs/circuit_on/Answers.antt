-- `link_question::circuit_on` meets its contract. Assumes nothing.
use Rattle.link_question.proofs.Found.{found_on}
use borrow.Author.Rules.{rules}
use Rattle.link_question.proofs.circuit_on.Goals as goal

pub returns : goal.returns
returns c = search (rules, found_on)
