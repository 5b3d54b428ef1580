-- `print::put_opening` meets its contract. Assumes nothing.
use borrow.Author.Rules.{rules}
use Rattle.buffer.proofs.Put.{put_put}
use Rattle.print.proofs.put_opening.Goals as goal

pub returns : goal.returns
returns c = record { put = search put_put; short = search rules }
