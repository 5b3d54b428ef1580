-- `decode::checked` meets its contract. Assumes nothing.
use borrow.Author.Rules.{rules}
use Rattle.decode.proofs.Stages.{judged_rules}
use Rattle.decode.proofs.checked.Goals as goal

pub returns-then-not-meets_rules : goal.returns-then-not-meets_rules
returns-then-not-meets_rules c = search (rules, judged_rules)

pub returns : goal.returns
returns c = search (rules, judged_rules)
