-- `circuit_lists::circuits_of` meets its contract: the first count of the list are the circuits of the places so far. Assumes nothing.
use borrow.Author.Rules.{rules}
use Rattle.circuit_lists.proofs.Gathering.{gather_circuits}
use Rattle.circuit_lists.proofs.circuits_of.Goals as goal
use Rattle.circuit_lists.proofs.circuits_of.Goals.{in-Unlit, in-Alone, in-Shared}

pub loop-channel-preserved : goal.loop-channel-preserved
loop-channel-preserved c =
    elim c.match-channel.branch [
      | in-Unlit w ↦ rw (w.list-is, w.count-is) (search (rules, gather_circuits))
      | in-Alone w ↦ rw (w.list-is, w.count-is) (search (rules, gather_circuits))
      | in-Shared w ↦ rw (w.list-is, w.count-is) (search (rules, gather_circuits))
    ]

pub returns : goal.returns
returns c = search (rules, gather_circuits)
