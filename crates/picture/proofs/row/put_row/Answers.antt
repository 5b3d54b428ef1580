-- `picture::row::put_row` meets its contract. Assumes nothing.
use borrow.Author.Rules.{rules}
use Rattle.buffer.proofs.Appending.{appending}
use Rattle.picture.proofs.row.put_row.Goals as goal

pub returns-then-is_unlit : goal.returns-then-is_unlit
returns-then-is_unlit c = record { some = search appending; short = search rules }

pub returns : goal.returns
returns c = record { some = search appending; short = search rules }
