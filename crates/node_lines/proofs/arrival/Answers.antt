-- `node_lines::arrival` meets its contract. Assumes nothing.
use borrow.Author.Rules.{rules}
use Rattle.node_lines.proofs.Slots.{placed}
use Rattle.node_lines.proofs.arrival.Goals as goal

pub returns-then-circuit-node : goal.returns-then-circuit-node
returns-then-circuit-node c = search (rules, placed)

pub returns-else-circuit-node : goal.returns-else-circuit-node
returns-else-circuit-node c = search (rules, placed)
