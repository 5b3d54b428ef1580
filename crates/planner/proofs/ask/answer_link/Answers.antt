-- `planner::ask::answer_link` meets its contract. Assumes nothing.
use borrow.Author.Rules.{rules}
use Rattle.planner.proofs.Lines.{lines}
use Rattle.planner.proofs.ask.answer_link.Goals as goal

pub link_of-answer-requires : goal.link_of-answer-requires
link_of-answer-requires c = search (rules, lines)

pub put_link-requires : goal.put_link-requires
put_link-requires c = search (rules, lines)

pub shape_of-out : goal.shape_of-out
shape_of-out c = search (rules, lines)

pub returns : goal.returns
returns c = search (rules, lines)
