-- `buffer::put_text` meets its contract. Assumes nothing.
use borrow.Author.Rules.{rules}
use Rattle.buffer.proofs.Put.{copied}
use Rattle.buffer.proofs.put_text.Goals as goal

pub returns : goal.returns
returns c = search (rules, copied)
