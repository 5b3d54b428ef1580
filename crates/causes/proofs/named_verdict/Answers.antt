-- `causes::named_verdict` meets its contract. Assumes nothing.
use Rattle.refusals.proofs.Judged.{verdict}
use borrow.Author.Rules.{rules}
use Rattle.causes.proofs.named_verdict.Goals as goal

pub returns-then-lent-lt-LEAST_RECORDS : goal.returns-then-lent-lt-LEAST_RECORDS
returns-then-lent-lt-LEAST_RECORDS c = search verdict depth 8

pub returns : goal.returns
returns c = search (rules, verdict) depth 8
