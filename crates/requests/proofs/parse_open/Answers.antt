-- `requests::parse_open` meets its contract, by the law of a field, used five times. Assumes nothing.
use borrow.Author.Rules.{rules}
use Rattle.requests.specs.Line.{parse_open}
use Rattle.words.proofs.Parse.{parsing}
use Rattle.requests.proofs.parse_open.Goals as goal

pub returns-in_err-number : goal.returns-in_err-number
unfolding parse_open
returns-in_err-number c = search (rules, parsing)

pub returns-in_err-source : goal.returns-in_err-source
unfolding parse_open
returns-in_err-source c = search (rules, parsing)

pub returns-in_err-destination : goal.returns-in_err-destination
unfolding parse_open
returns-in_err-destination c = search (rules, parsing)

pub returns-in_err-remark : goal.returns-in_err-remark
unfolding parse_open
returns-in_err-remark c = search (rules, parsing) depth 8

pub returns-in_err-account : goal.returns-in_err-account
unfolding parse_open
returns-in_err-account c =
    search (rules, parsing, c.in_ok-number.ensures, c.in_ok-source.ensures, c.in_ok-destination.ensures, c.in_ok-remark.ensures, c.in_err-account.ensures) depth 8

pub returns : goal.returns
unfolding parse_open
returns c =
    search (rules, parsing, c.in_ok-number.ensures, c.in_ok-source.ensures, c.in_ok-destination.ensures, c.in_ok-remark.ensures, c.in_ok-account.ensures) depth 8
