-- `roster_forms::report` meets its contract. Assumes nothing.
use borrow.Author.Rules.{rules}
use Rattle.roster_forms.proofs.Forms.{forming, report_refused}
use Rattle.roster_forms.proofs.loads.report.Goals as goal

pub report_valid-requires : goal.report_valid-requires
report_valid-requires c = search (rules, forming)

pub returns-then-not-stands-clause-answer : goal.returns-then-not-stands-clause-answer
returns-then-not-stands-clause-answer c = (report_refused c.args.roster c.args.out.now (search (rules, forming))).0

pub returns-then-not-stands-clause-buffer : goal.returns-then-not-stands-clause-buffer
returns-then-not-stands-clause-buffer c = (report_refused c.args.roster c.args.out.now (search (rules, forming))).1.0
