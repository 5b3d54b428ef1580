-- `ring_bench::tidyings::put_records` meets its contract: the records of the moves before are written. Assumes nothing.
use Prim.Native.Nat.{◌+◌, ◌*◌}
use mathlib.Core.Path.{◌≡◌}
use lib.ListN.{length}
use Rattle.ring_bench.proofs.tidyings.put_records.Given as goal

abbrev pub invariant-loop-m : goal.invariant-loop-m
invariant-loop-m l = (l.next ≡ l.at + l.m-index * 6) × (length l.out ≡ length l.initial.out)
