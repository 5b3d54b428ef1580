-- `load::report` meets its contract. Assumes nothing.
use Rattle.basis.proofs.Branch.{branch}
use borrow.Author.Rules.{rules}
use Rattle.load.proofs.Answers.{report_broken}
use Rattle.load.proofs.report.Goals as goal

pub report_valid-requires : goal.report_valid-requires
report_valid-requires c = search (rules, branch)

pub returns-then-not-meets_rules-clause-answer : goal.returns-then-not-meets_rules-clause-answer
returns-then-not-meets_rules-clause-answer c = (report_broken c.args.table c.args.out.now (search (rules, branch))).0

pub returns-then-not-meets_rules-clause-buffer : goal.returns-then-not-meets_rules-clause-buffer
returns-then-not-meets_rules-clause-buffer c = (report_broken c.args.table c.args.out.now (search (rules, branch))).1.0

pub returns-then-not-meets_rules-clause-numbers : goal.returns-then-not-meets_rules-clause-numbers
returns-then-not-meets_rules-clause-numbers c = (report_broken c.args.table c.args.out.now (search (rules, branch))).1.1
