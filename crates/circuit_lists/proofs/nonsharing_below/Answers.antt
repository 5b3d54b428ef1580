-- `circuit_lists::nonsharing_below` meets its contract: the first count of the list are the nonsharing circuits of the places so far.
-- Assumes nothing.
use native.Mathlib.Omega.{arith}
use borrow.Author.Rules.{rules}
use Rattle.circuit_lists.proofs.Gathering.{alone_none, gather_alone}
use Rattle.circuit_lists.proofs.nonsharing_below.Goals as goal
use Rattle.circuit_lists.proofs.nonsharing_below.Goals.{in-Alone, in_default}

pub loop-place-preserved : goal.loop-place-preserved
loop-place-preserved c =
    elim c.match-channel.branch [
      | in-Alone w ↦ rw (w.list-is, w.count-is) (search (rules, gather_alone))
      | in_default w ↦ rw (w.list-is, w.count-is) (omega arith, alone_none _ _ _ _ c.loop-place.invariant.1 w.in_default.not-Alone)
    ]

pub returns : goal.returns
returns c = search (rules, gather_alone)
