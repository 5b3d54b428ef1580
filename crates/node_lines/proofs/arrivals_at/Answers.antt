-- `node_lines::arrivals_at` meets its contract. Assumes nothing.
use borrow.Author.Rules.{rules}
use Rattle.node_lines.proofs.Slots.{placed}
use Rattle.node_lines.proofs.arrivals_at.Goals as goal

pub returns-then-a-node : goal.returns-then-a-node
returns-then-a-node c = search (rules, placed)

pub returns-then-b-node : goal.returns-then-b-node
returns-then-b-node c = search (rules, placed)

pub returns-in-Alone : goal.returns-in-Alone
returns-in-Alone c = search (rules, placed)

pub returns-else-b-node : goal.returns-else-b-node
returns-else-b-node c = search (rules, placed)
