-- `node_lines::put_nodes` meets its contract. Assumes nothing.
use borrow.Author.Rules.{rules}
use Rattle.node_lines.proofs.Nodes.{nodes_put}
use Rattle.node_lines.proofs.put_nodes.Goals as goal

pub put_node_lines-requires : goal.put_node_lines-requires
put_node_lines-requires c = (search rules, search rules)

pub returns : goal.returns
returns c = search (rules, nodes_put)
