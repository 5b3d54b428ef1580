-- `roster_forms::write_valid` meets its contract. Assumes nothing.
use borrow.Author.Rules.{rules}
use Rattle.roster_forms.proofs.Forms.{forming, write_stands}
use Rattle.roster_forms.proofs.saved.write_valid.Goals as goal

pub table_valid-requires : goal.table_valid-requires
table_valid-requires c = search (rules, forming)

pub write_valid-requires : goal.write_valid-requires
write_valid-requires c = search (rules, forming)

pub returns-clause-answer : goal.returns-clause-answer
returns-clause-answer c =
    let e = c.write_valid.ensures in
    (write_stands _ _ c.requires _ c.table_valid.ensures _ _ (e.answer, (e.buffer, e.numbers))).0

pub returns-clause-buffer : goal.returns-clause-buffer
returns-clause-buffer c =
    let e = c.write_valid.ensures in
    (write_stands _ _ c.requires _ c.table_valid.ensures _ _ (e.answer, (e.buffer, e.numbers))).1.0

pub returns-clause-numbers : goal.returns-clause-numbers
returns-clause-numbers c =
    let e = c.write_valid.ensures in
    (write_stands _ _ c.requires _ c.table_valid.ensures _ _ (e.answer, (e.buffer, e.numbers))).1.1
