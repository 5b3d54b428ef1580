-- `ring::RingTable::open` meets its contract: the decision's table and answer, and its moves on the list. Assumes nothing.
use Rattle.std.proofs.Common.{◌∙◌, ap}
use Rattle.moves.specs.Lent.{written}
use Rattle.ring.proofs.Demand.{demand3_open}
use Rattle.ring.proofs.RingTable.open.Goals as goal

pub returns-clause-answer : goal.returns-clause-answer
returns-clause-answer c = ap (λ d. d.opened) c.decide-decision.ensures.answer

pub returns-clause-list : goal.returns-clause-list
returns-clause-list c = c.write_moves.ensures ∙ ap (λ d. written c.args.moves.now d.moves) c.decide-decision.ensures.answer

pub returns-clause-numbers : goal.returns-clause-numbers
returns-clause-numbers c = c.decide-decision.ensures.numbers

pub returns-clause-demand3 : goal.returns-clause-demand3
returns-clause-demand3 c = demand3_open _ _ _ _ _ (returns-clause-answer c) (returns-clause-list c)
