-- `link_question::judge` meets its contract. Assumes nothing.
use Rattle.link_question.proofs.Asked.{judging}
use borrow.Author.Rules.{rules}
use Rattle.link_question.proofs.judge.Goals as goal

pub returns-then-not-is_link : goal.returns-then-not-is_link
returns-then-not-is_link c = search (rules, judging)

pub returns-then-wavelengths-wavelength : goal.returns-then-wavelengths-wavelength
returns-then-wavelengths-wavelength c = search (rules, judging)

pub returns-then-direction-ge2 : goal.returns-then-direction-ge2
returns-then-direction-ge2 c = search (rules, judging)

pub returns : goal.returns
returns c = search (rules, judging)
