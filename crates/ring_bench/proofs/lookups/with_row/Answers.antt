-- `ring_bench::lookups::with_row` meets its contract: what is still to be summed is the entries that the iterator has left. Assumes nothing.
use mathlib.Core.Logic.{inl, inr}
use mathlib.Core.Path.{◌≡◌}
use native.Mathlib.Omega.{arith}
use borrow.Author.Rules.{rules}
use lib.ListN.{length}
use Rattle.ring_bench.proofs.Rowed.{sum_none, sum_next, sum_all}
use Rattle.ring_bench.proofs.lookups.with_row.Goals as goal

pub loop-key-init : goal.loop-key-init
loop-key-init c = search (rules, sum_none)

pub loop-key-preserved : goal.loop-key-preserved
loop-key-preserved c = let h = c.in-Some.ensures.steps in sum_next _ _ _ _ _ _ c.loop-key.invariant _ _ _ _ h.0 h.1 _ c.with_entry-last.ensures

pub returns : goal.returns
returns c =
    let none : length c.loop-key.key-iterator.a.rest.now ≡ 0 =
    elim c.in-None.ensures.steps [ inl a ↦ a.1.0 | inr b ↦ omega (arith, b.1.0, c.loop-key.invariant.same) ] in
    sum_all _ _ _ _ _ _ c.loop-key.invariant none
