-- `row_numbers::number_at` meets its contract. Assumes nothing.
use borrow.Author.Rules.{rules}
use Rattle.row_numbers.proofs.Rows.{rows}
use Rattle.row_numbers.proofs.number_at.Goals as goal

pub returns-in-To : goal.returns-in-To
returns-in-To c = search (rules, rows)

pub returns-in-Place : goal.returns-in-Place
returns-in-Place c = search (rules, rows)

pub returns-in-Clockwise : goal.returns-in-Clockwise
returns-in-Clockwise c = search (rules, rows)

pub returns-in-Counterclockwise : goal.returns-in-Counterclockwise
returns-in-Counterclockwise c = search (rules, rows)

pub returns-in-Senders : goal.returns-in-Senders
returns-in-Senders c = search (rules, rows)

pub returns-in-Receivers : goal.returns-in-Receivers
returns-in-Receivers c = search (rules, rows)
