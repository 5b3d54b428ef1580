-- `node_lines::arrivals` meets its contract: the places below an index are copied. Assumes nothing.
use borrow.Author.Rules.{rules}
use Rattle.node_lines.proofs.Copying.{copying}
use Rattle.node_lines.proofs.arrivals.Goals as goal

pub loop-place-init : goal.loop-place-init
loop-place-init c = search (rules, copying)

pub loop-place-preserved : goal.loop-place-preserved
loop-place-preserved c = search (rules, copying)

pub returns : goal.returns
returns c = search (rules, copying)
