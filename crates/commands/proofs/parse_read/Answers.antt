-- `commands::parse_read` meets its contract. Assumes nothing.
use borrow.Author.Rules.{rules}
use Rattle.words.proofs.Parse.{none_given}
use Rattle.commands.proofs.Last.{last_asks}
use Rattle.commands.proofs.parse_read.Goals as goal

pub returns-in_err-start : goal.returns-in_err-start
returns-in_err-start c = search (rules, last_asks, none_given)

pub returns-then-line-start-eq64 : goal.returns-then-line-start-eq64
returns-then-line-start-eq64 c = search (rules, last_asks, none_given)

pub returns : goal.returns
returns c = search (rules, last_asks, none_given)
