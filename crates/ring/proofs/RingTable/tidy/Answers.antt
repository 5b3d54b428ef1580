-- `ring::RingTable::tidy` meets its contract: the decision's table and answer, and its moves on the list. Assumes nothing.
use Rattle.std.proofs.Common.{◌∙◌, ap}
use Rattle.moves.specs.MoveList.{written_all}
use Rattle.ring.proofs.Rounds.{tidies_lent}
use Rattle.ring.proofs.RingTable.tidy.Goals as goal

pub returns-clause-answer : goal.returns-clause-answer
returns-clause-answer c = ap (λ d. d.tidied) c.decide_tidy-decision.ensures.answer

pub returns-clause-list : goal.returns-clause-list
returns-clause-list c = c.write_list.ensures ∙ ap (λ d. written_all c.args.moves.now d.moves) c.decide_tidy-decision.ensures.answer

pub returns-clause-numbers : goal.returns-clause-numbers
returns-clause-numbers c = c.decide_tidy-decision.ensures.numbers

pub returns-clause-tidies : goal.returns-clause-tidies
returns-clause-tidies c = tidies_lent _ _ _ _ (returns-clause-answer c) (returns-clause-list c)
