-- `ring::RingTable::decide_tidy_valid` meets its contract. Assumes nothing.
use borrow.Author.Rules.{rules}
use Rattle.ring.proofs.Rounds.{tidy_short, tidy_long, tidies_valid}
use Rattle.ring.proofs.RingTable.decide_tidy_valid.Goals as goal

pub returns-then-lent-lt-TIDY_RECORDS-clause-answer : goal.returns-then-lent-lt-TIDY_RECORDS-clause-answer
returns-then-lent-lt-TIDY_RECORDS-clause-answer c = tidy_short _ _ c.requires _ (search rules) (search rules)

pub returns-then-lent-lt-TIDY_RECORDS-clause-numbers : goal.returns-then-lent-lt-TIDY_RECORDS-clause-numbers
returns-then-lent-lt-TIDY_RECORDS-clause-numbers c = (tidies_valid _ _ _ (returns-then-lent-lt-TIDY_RECORDS-clause-answer c) c.requires).1.0

pub returns-then-lent-lt-TIDY_RECORDS-clause-tidies : goal.returns-then-lent-lt-TIDY_RECORDS-clause-tidies
returns-then-lent-lt-TIDY_RECORDS-clause-tidies c = (tidies_valid _ _ _ (returns-then-lent-lt-TIDY_RECORDS-clause-answer c) c.requires).1.1

pub returns-clause-answer : goal.returns-clause-answer
returns-clause-answer c = tidy_long _ _ c.requires _ (search rules) (search rules)

pub returns-clause-numbers : goal.returns-clause-numbers
returns-clause-numbers c = (tidies_valid _ _ _ (returns-clause-answer c) c.requires).1.0

pub returns-clause-tidies : goal.returns-clause-tidies
returns-clause-tidies c = (tidies_valid _ _ _ (returns-clause-answer c) c.requires).1.1
