-- `node_lines::put_node_lines` meets its contract: what is still to be printed is the nodes from `node` on. Assumes nothing.
use Rattle.node_lines.proofs.Nodes.{Naming}
use Rattle.node_lines.proofs.put_node_lines.Given as goal

abbrev pub invariant-loop-node : goal.invariant-loop-node
invariant-loop-node l = Naming l.table l.initial.out l.at l.out l.next l.node
