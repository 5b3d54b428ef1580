-- `commands::at_end` meets its contract. Assumes nothing.
use borrow.Author.Rules.{rules}
use Rattle.words.proofs.Parse.{parsing}
use Rattle.commands.proofs.at_end.Goals as goal

pub returns-then-at-line : goal.returns-then-at-line
returns-then-at-line c = search (rules, parsing)
