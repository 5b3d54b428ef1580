-- `requests::parse_request` meets its contract, by the line's first word. Assumes nothing.
use borrow.Author.Rules.{rules}
use Rattle.requests.proofs.FirstWord.{lines}
use Rattle.requests.proofs.parse_request.Goals as goal

pub returns-then-line-gt-LONGEST_LINE : goal.returns-then-line-gt-LONGEST_LINE
returns-then-line-gt-LONGEST_LINE c = search (rules, lines)

pub slice_bounds-word-end : goal.slice_bounds-word-end
slice_bounds-word-end c = search (rules, lines)

pub returns-then-eq : goal.returns-then-eq
returns-then-eq c = search (rules, lines)

pub returns-then-eq-2 : goal.returns-then-eq-2
returns-then-eq-2 c = search (rules, lines)

pub returns-then-eq-3 : goal.returns-then-eq-3
returns-then-eq-3 c = search (rules, lines)

pub returns : goal.returns
returns c = search (rules, lines)
