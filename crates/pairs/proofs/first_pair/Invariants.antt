-- `pairs::first_pair` meets its contract. Assumes nothing.
use Prim.Native.Nat.{◌+◌, ◌*◌, ◌≤◌}
use Rattle.pairs.proofs.Seek.{AtRow, AtPair}
use Rattle.pairs.proofs.first_pair.Given as goal

abbrev pub invariant-loop-b : goal.invariant-loop-b
invariant-loop-b l = (l.looks ≤ l.i * 129 + l.b-index) × AtPair l.candidates l.i l.b-index l.looks

abbrev pub invariant-pairs : goal.invariant-pairs
invariant-pairs l = (l.looks ≤ l.i * 129) × AtRow l.candidates l.i l.looks
