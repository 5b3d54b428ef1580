-- `tidy_lines::put_tidying` meets its contract. Assumes nothing.
use borrow.Author.Rules.{rules}
use Rattle.buffer.proofs.Put.{put_put}
use Rattle.tidy_lines.proofs.put_tidying.Goals as goal

pub returns : goal.returns
returns c = record { put = search put_put; short = search rules }
