-- `ending::ends` meets its contract. Assumes nothing.
use Rattle.ending.specs.Ending.{requested}
use Rattle.ending.proofs.Judging.{broken}
use Rattle.ending.proofs.ends.Goals as goal

pub returns-then-not-meets_rules-clause-answer : goal.returns-then-not-meets_rules-clause-answer
returns-then-not-meets_rules-clause-answer c =
    (broken c.args.table (requested c.args.number c.args.source c.args.destination) c.meets_rules.result c.meets_rules.ensures
    c.if-not-meets_rules.true).0

pub returns-then-not-meets_rules-clause-numbers : goal.returns-then-not-meets_rules-clause-numbers
returns-then-not-meets_rules-clause-numbers c =
    (broken c.args.table (requested c.args.number c.args.source c.args.destination) c.meets_rules.result c.meets_rules.ensures
    c.if-not-meets_rules.true).1

pub returns-clause-answer : goal.returns-clause-answer
returns-clause-answer c = c.ends_valid.ensures.answer

pub returns-clause-numbers : goal.returns-clause-numbers
returns-clause-numbers c = c.ends_valid.ensures.numbers
