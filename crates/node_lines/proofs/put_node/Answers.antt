-- `node_lines::put_node` meets its contract. Assumes nothing.
use borrow.Author.Rules.{rules}
use Rattle.node_lines.proofs.Nodes.{named}
use Rattle.node_lines.proofs.put_node.Goals as goal

pub overflow_cast-sends : goal.overflow_cast-sends
overflow_cast-sends c = search (rules, named)

pub overflow_cast-receives : goal.overflow_cast-receives
overflow_cast-receives c = search (rules, named)

pub returns : goal.returns
returns c = search (rules, named)
