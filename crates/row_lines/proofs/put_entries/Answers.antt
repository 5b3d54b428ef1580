-- `row_lines::put_entries` meets its contract: what is still to be printed is the entries that the iterator has left. Assumes nothing.
use mathlib.Core.Logic.{inl, inr}
use mathlib.Core.Path.{◌≡◌}
use native.Mathlib.Omega.{arith}
use borrow.Author.Rules.{rules}
use lib.ListN.{length}
use Rattle.row_lines.proofs.Entries.{send_none, send_all, send_room, send_next}
use Rattle.row_lines.proofs.put_entries.Goals as goal

pub loop-key-init : goal.loop-key-init
loop-key-init c = search (rules, send_none)

pub put_entry-next-requires : goal.put_entry-next-requires
put_entry-next-requires c = let h = c.in-Some.ensures.steps in send_room _ _ _ _ _ _ _ _ _ c.loop-key.invariant _ _ _ _ h.0 h.1

pub loop-key-preserved : goal.loop-key-preserved
loop-key-preserved c = let h = c.in-Some.ensures.steps in send_next _ _ _ _ _ _ _ _ _ c.loop-key.invariant _ _ _ _ h.0 h.1 _ _ c.put_entry-next.ensures

pub returns : goal.returns
returns c =
    let none : length c.loop-key.key-iterator.a.rest.now ≡ 0 =
    elim c.in-None.ensures.steps [ inl a ↦ a.1.0 | inr b ↦ omega (arith, b.1.0, c.loop-key.invariant.same) ] in
    send_all _ _ _ _ _ _ _ _ _ c.loop-key.invariant none
