-- `ports_used::sent_at` meets its contract: its closure is the test of a circuit. Assumes nothing.
use lib.Dec.{eqb}
use borrow.Author.Rules.{rules}
use Rattle.ports_used.proofs.sent_at.Goals as goal

pub returns : goal.returns
returns c = (c.count_at.ensures.counted (λ a. eqb a.source c.args.node) (λ a b k. search rules), c.count_at.ensures.most)
