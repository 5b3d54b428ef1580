-- `rows::row_of` meets its contract. Assumes nothing.
use Rattle.std.proofs.Common.{rules}
use Rattle.entries.specs.Entry.{row_key}
use Rattle.rows.proofs.Found.{row_found}
use Rattle.rows.proofs.row_of.Goals as goal

pub overflow_add-first : goal.overflow_add-first
unfolding row_key
overflow_add-first c = search rules

pub returns : goal.returns
returns c = search (rules, row_found)
