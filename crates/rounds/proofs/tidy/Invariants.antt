-- `rounds::tidy` meets its contract. What is done and the rounds left are the tidying; each round leaves two circuits fewer alone, which is
-- why it ends. Assumes nothing.
use mathlib.Core.Path.{◌≡◌}
use lib.ListN.{length}
use Rattle.limits.specs.Limits.{place_count}
use Rattle.tidying.proofs.Pairs.{alone_count}
use Rattle.rounds.specs.Next.{Finds}
use Rattle.rounds.proofs.Midway.{Midway}
use Rattle.rounds.proofs.tidy.Given as goal

abbrev pub invariant-loop-next : goal.invariant-loop-next
invariant-loop-next l = (length l.tidied.channels ≡ place_count) × Midway l.nodes l.limit l.initial.tidied.channels l.tidied × Finds l.nodes l.limit l.tidied.channels l.next

abbrev pub decreases-loop-next : goal.decreases-loop-next
decreases-loop-next l = alone_count l.tidied.channels
