-- `row_numbers::load_at` meets its contract. Assumes nothing.
use borrow.Author.Rules.{rules}
use Rattle.row_numbers.proofs.Loads.{loading}
use Rattle.row_numbers.proofs.load_at.Goals as goal

pub returns-in-Clockwise : goal.returns-in-Clockwise
returns-in-Clockwise c = search (rules, loading)

pub returns-in-Counterclockwise : goal.returns-in-Counterclockwise
returns-in-Counterclockwise c = search (rules, loading)
