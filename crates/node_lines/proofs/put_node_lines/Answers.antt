-- `node_lines::put_node_lines` meets its contract: what is still to be printed is the nodes from `node` on. Assumes nothing.
use borrow.Author.Rules.{rules}
use Rattle.node_lines.proofs.Nodes.{naming}
use Rattle.node_lines.proofs.put_node_lines.Goals as goal

pub loop-node-init : goal.loop-node-init
loop-node-init c = search (rules, naming)

pub put_node-next-requires : goal.put_node-next-requires
put_node-next-requires c = (search (rules, naming), search rules)

pub loop-node-preserved : goal.loop-node-preserved
loop-node-preserved c = search (rules, naming)

pub returns : goal.returns
returns c = search (rules, naming)

pub returns-2 : goal.returns-2
returns-2 c = search (rules, naming)
