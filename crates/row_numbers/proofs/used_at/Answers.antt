-- `row_numbers::used_at` meets its contract. Assumes nothing.
use borrow.Author.Rules.{rules}
use Rattle.row_numbers.proofs.Using.{ends}
use Rattle.row_numbers.proofs.used_at.Goals as goal

pub returns-in-Source : goal.returns-in-Source
returns-in-Source c = search (rules, ends)

pub returns-in-Destination : goal.returns-in-Destination
returns-in-Destination c = search (rules, ends)
