-- `roster_calls::tidy` meets its contract: the decision's roster and answer, and its moves on the list. Assumes nothing.
use Rattle.std.proofs.Common.{◌≡◌, ◌∙◌, true, sym, ap, subst, length}
use Rattle.moves.specs.MoveList.{written_all}
use Rattle.roster.specs.Roster.{stands}
use Rattle.roster_calls.specs.declared.Tidied.{Tidied}
use Rattle.roster_calls.specs.declared.TidyDecided.{TidyDecided}
use Rattle.roster_calls.specs.Calls.{decide_tidy_roster}
use Rattle.roster_calls.specs.Tidies.{TidiesHeldLent}
use Rattle.roster_calls.proofs.Tidies.{Keeps, lent_is, lent_tidies}
use Rattle.roster_calls.proofs.lent.tidy.Goals as goal

pub returns-clause-answer : goal.returns-clause-answer
returns-clause-answer c = ap (λ d. d.tidied) c.decide_tidy-decision.ensures.answer

pub returns-clause-list : goal.returns-clause-list
returns-clause-list c = lent_is _ _ _ (c.write_list.ensures ∙ ap (λ d. written_all c.args.moves.now d.moves) c.decide_tidy-decision.ensures.answer)

pub returns-clause-numbers : goal.returns-clause-numbers
returns-clause-numbers c = c.decide_tidy-decision.ensures.numbers

pub returns-clause-tidies : goal.returns-clause-tidies
returns-clause-tidies c =
    let decision = c.decide_tidy-decision.ensures in
    let keeps : stands c.args.roster ≡ true → Keeps c.args.roster (length c.args.moves.now) (decide_tidy_roster c.args.roster (length c.args.moves.now)) =
    λ s. subst (λ (d : TidyDecided). Keeps c.args.roster (length c.args.moves.now) d) decision.answer (decision.tidies s) in
    λ s. subst (λ (o : Tidied). TidiesHeldLent c.args.roster c.args.moves.now o c.write_list.new.list) (sym (returns-clause-answer c))
    (lent_tidies _ _ _ (c.write_list.ensures ∙ ap (λ d. written_all c.args.moves.now d.moves) decision.answer) keeps s)
