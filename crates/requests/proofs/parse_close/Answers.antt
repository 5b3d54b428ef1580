-- `requests::parse_close` meets its contract, by the law of a field. Assumes nothing.
use borrow.Author.Rules.{rules}
use Rattle.requests.specs.Line.{parse_close}
use Rattle.words.proofs.Parse.{parsing}
use Rattle.requests.proofs.parse_close.Goals as goal

pub returns-in_err-number : goal.returns-in_err-number
unfolding parse_close
returns-in_err-number c = search (rules, parsing)

pub returns : goal.returns
unfolding parse_close
returns c = search (rules, parsing)
