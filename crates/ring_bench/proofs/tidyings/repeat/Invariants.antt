-- `ring_bench::tidyings::repeat` meets its contract: each tidying gives the same. Assumes nothing.
use mathlib.Core.Path.{◌≡◌}
use Rattle.limits.specs.Limits.{tidy_records}
use Rattle.ring.specs.Tidying.{decide_tidy_of}
use Rattle.ring_bench.proofs.tidyings.repeat.Given as goal

abbrev pub invariant-loop : goal.invariant-loop
invariant-loop l = l.last ≡ decide_tidy_of l.table tidy_records
