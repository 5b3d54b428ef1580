-- `row_lines::put_entry` meets its contract. Assumes nothing.
use borrow.Author.Rules.{rules}
use Rattle.row_lines.proofs.Words.{entry_words}
use Rattle.row_lines.proofs.put_entry.Goals as goal

pub overflow_cast-place : goal.overflow_cast-place
overflow_cast-place c = search (rules, entry_words)

pub returns-in-From : goal.returns-in-From
returns-in-From c = search (rules, entry_words)

pub returns-in-To : goal.returns-in-To
returns-in-To c = search (rules, entry_words)
