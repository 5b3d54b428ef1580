-- `lightpath::links_ahead` meets its contract. Assumes nothing.
use borrow.Author.Rules.{rules}
use Rattle.lightpath.specs.Circuit.{ahead}
use Rattle.lightpath.proofs.links_ahead.Goals as goal

pub returns : goal.returns
unfolding ahead
returns c = search rules
