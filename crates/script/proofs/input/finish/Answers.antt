-- `script::input::finish` meets its contract. Assumes nothing.
use borrow.Author.Rules.{rules}
use Rattle.script.proofs.Feeding.{end_line, ending}
use Rattle.script.proofs.input.finish.Goals as goal

pub returns-then-session-eq0 : goal.returns-then-session-eq0
returns-then-session-eq0 c = search (rules, ending)

pub feed-requires : goal.feed-requires
feed-requires c = search (rules, ending)

pub shape_of-out : goal.shape_of-out
shape_of-out c = search (rules, ending)

pub returns : goal.returns
returns c = end_line _ _ _ _ c.requires.0 (search (rules, c.well_formed)) c.if-session-eq0.false c.feed.ensures
