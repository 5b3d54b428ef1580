-- `link_question::is_link` meets its contract. Assumes nothing.
use Rattle.basis.proofs.Branch.{branch}
use borrow.Author.Rules.{rules}
use Rattle.link_question.proofs.is_link.Goals as goal

pub returns-then-link-ge1 : goal.returns-then-link-ge1
returns-then-link-ge1 c = search (rules, branch)

pub returns-else-link-ge1 : goal.returns-else-link-ge1
returns-else-link-ge1 c = search (rules, branch)
