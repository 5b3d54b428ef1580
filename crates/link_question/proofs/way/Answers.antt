-- `link_question::way` meets its contract. Assumes nothing.
use Rattle.basis.proofs.Branch.{branch}
use borrow.Author.Rules.{rules}
use Rattle.link_question.proofs.way.Goals as goal

pub returns-then-direction-eq0 : goal.returns-then-direction-eq0
returns-then-direction-eq0 c = search (rules, branch)

pub returns-else-direction-eq0 : goal.returns-else-direction-eq0
returns-else-direction-eq0 c = search (rules, branch)
