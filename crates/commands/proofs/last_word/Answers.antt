-- `commands::last_word` meets its contract. Assumes nothing.
use Rattle.std.proofs.Common.{sym, ◌∙◌}
use borrow.Author.Tests.{eqb-true}
use Rattle.commands.proofs.Last.{empty_last, more_last}
use Rattle.commands.proofs.last_word.Goals as goal
use Rattle.commands.proofs.last_word.Goals.{then-is_empty-via-then-is_empty, then-is_empty-via-else-is_empty+then-end-line}

pub returns-then-is_empty : goal.returns-then-is_empty
returns-then-is_empty c = elim c.then-is_empty.branch [
  | then-is_empty-via-then-is_empty w ↦ empty_last _ _ _ _ c.in_ok-word.ensures (eqb-true _ _ (sym c.is_empty.ensures ∙ w.if-is_empty.true))
  | then-is_empty-via-else-is_empty+then-end-line w ↦ more_last _ _ _ _ c.in_ok-word.ensures w.if-end-line.true
]
