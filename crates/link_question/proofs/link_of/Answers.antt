-- `link_question::link_of` meets its contract. Assumes nothing.
use mathlib.Core.Path.{◌∙◌}
use Rattle.link_question.proofs.Asked.{answering, link_granted}
use borrow.Author.Rules.{rules}
use Rattle.link_question.proofs.link_of.Goals as goal

pub circuit_on-requires : goal.circuit_on-requires
circuit_on-requires c = search (rules, answering)

pub returns-in-Some : goal.returns-in-Some
returns-in-Some c = link_granted _ _ _ _ _ c.judge.ensures _ c.in-Ok.is (c.from.ensures ∙ c.in-Some.ensures)

pub returns-in-None : goal.returns-in-None
returns-in-None c = link_granted _ _ _ _ _ c.judge.ensures _ c.in-Ok.is c.in-None.ensures

pub returns-in-Err : goal.returns-in-Err
returns-in-Err c = search (rules, answering)
