-- `picture::put_rows` meets its contract. Assumes nothing.
use borrow.Author.Rules.{rules}
use Rattle.buffer.proofs.Appending.{appending}
use Rattle.picture.proofs.put_rows.Goals as goal

pub returns : goal.returns
returns c = record { some = search appending; short = search rules }
