-- `roster_forms::report_valid` meets its contract. Assumes nothing.
use borrow.Author.Rules.{rules}
use Rattle.roster_forms.proofs.Forms.{forming, report_stands}
use Rattle.roster_forms.proofs.loads.report_valid.Goals as goal

pub table_valid-requires : goal.table_valid-requires
table_valid-requires c = search (rules, forming)

pub report_valid-requires : goal.report_valid-requires
report_valid-requires c = search (rules, forming)

pub returns-clause-answer : goal.returns-clause-answer
returns-clause-answer c =
    let e = c.report_valid.ensures in
    (report_stands _ _ c.requires _ c.table_valid.ensures _ _ (e.answer, (e.buffer, e.numbers))).0

pub returns-clause-buffer : goal.returns-clause-buffer
returns-clause-buffer c =
    let e = c.report_valid.ensures in
    (report_stands _ _ c.requires _ c.table_valid.ensures _ _ (e.answer, (e.buffer, e.numbers))).1.0

pub returns-clause-numbers : goal.returns-clause-numbers
returns-clause-numbers c =
    let e = c.report_valid.ensures in
    (report_stands _ _ c.requires _ c.table_valid.ensures _ _ (e.answer, (e.buffer, e.numbers))).1.1
