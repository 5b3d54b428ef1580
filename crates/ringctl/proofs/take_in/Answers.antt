-- `ringctl::take_in` meets its contract. Assumes nothing.
use borrow.Author.Rules.{rules}
use Rattle.ringctl.proofs.Turns.{taking, take_fed}
use Rattle.ringctl.proofs.take_in.Goals as goal

pub returns-then-count-eq0 : goal.returns-then-count-eq0
returns-then-count-eq0 c = search (rules, taking)

pub returns : goal.returns
returns c =
    take_fed _ _ _ _ (search rules) (search rules) _ _ c.in-Some.is c.min-count.result (search rules) (search rules) _ (search rules) (search rules)
