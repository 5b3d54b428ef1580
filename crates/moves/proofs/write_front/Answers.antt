-- `moves::write_front` meets its contract. Assumes nothing.
use mathlib.Core.Path.{sym}
use Rattle.moves.proofs.Front.{fronted_short, fronted_long}
use Rattle.moves.proofs.write_front.Goals as goal

pub returns-then-list-least : goal.returns-then-list-least
returns-then-list-least c = sym (fronted_short _ _ _ c.if-list-least.true)

pub returns : goal.returns
returns c = rw c.copy_from_slice.ensures.after (sym (fronted_long _ _ _ c.if-list-least.false))
