-- `link_question::running` meets its contract. Assumes nothing.
use Rattle.link_question.proofs.Found.{finding}
use borrow.Author.Rules.{rules}
use Rattle.link_question.proofs.running.Goals as goal

pub returns-then-uses : goal.returns-then-uses
returns-then-uses c = search (rules, finding)

pub returns-then-uses-2 : goal.returns-then-uses-2
returns-then-uses-2 c = search (rules, finding)

pub returns-then-uses-3 : goal.returns-then-uses-3
returns-then-uses-3 c = search (rules, finding)

pub returns-in-Unlit : goal.returns-in-Unlit
returns-in-Unlit c = search (rules, finding)

pub returns-else-uses : goal.returns-else-uses
returns-else-uses c = search (rules, finding)

pub returns-else-uses-3 : goal.returns-else-uses-3
returns-else-uses-3 c = search (rules, finding)
