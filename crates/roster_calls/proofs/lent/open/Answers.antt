-- `roster_calls::open` meets its contract: the decision's roster and answer, and its moves on the list. Assumes nothing.
use Rattle.std.proofs.Common.{◌≡◌, ◌∙◌, true, sym, ap, subst, length}
use Rattle.moves.specs.Lent.{written}
use Rattle.roster.specs.Roster.{stands}
use Rattle.roster_calls.specs.declared.Opened.{Opened}
use Rattle.roster_calls.specs.declared.Decided.{Decided}
use Rattle.roster_calls.specs.Calls.{decide_roster}
use Rattle.roster_calls.specs.Demand3.{Demand3HeldLent}
use Rattle.roster_calls.proofs.Opens.{Keeps, lent_is, lent_demand}
use Rattle.roster_calls.proofs.lent.open.Goals as goal

pub returns-clause-answer : goal.returns-clause-answer
returns-clause-answer c = ap (λ d. d.opened) c.decide-decision.ensures.answer

pub returns-clause-list : goal.returns-clause-list
returns-clause-list c = lent_is _ _ _ _ (c.write_moves.ensures ∙ ap (λ d. written c.args.moves.now d.moves) c.decide-decision.ensures.answer)

pub returns-clause-numbers : goal.returns-clause-numbers
returns-clause-numbers c = c.decide-decision.ensures.numbers

pub returns-clause-demand3 : goal.returns-clause-demand3
returns-clause-demand3 c =
    let decision = c.decide-decision.ensures in
    let keeps : stands c.args.roster ≡ true → Keeps c.args.roster c.args.circuit (length c.args.moves.now) (decide_roster c.args.roster c.args.circuit (length c.args.moves.now)) =
    λ s. subst (λ (d : Decided). Keeps c.args.roster c.args.circuit (length c.args.moves.now) d) decision.answer (decision.demand3 s) in
    λ s. subst (λ (o : Opened). Demand3HeldLent c.args.roster c.args.circuit c.args.moves.now o c.write_moves.new.list) (sym (returns-clause-answer c))
    (lent_demand _ _ _ _ (c.write_moves.ensures ∙ ap (λ d. written c.args.moves.now d.moves) decision.answer) keeps s)
