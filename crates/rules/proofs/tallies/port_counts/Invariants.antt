-- `rules::tallies::port_counts` meets its contract. Assumes nothing.
-- the circuits so far are counted at their sources and at their destinations
use Rattle.rules.specs.Tallies.{Tallied}
use Rattle.rules.proofs.tallies.port_counts.Given as goal

abbrev pub invariant-loop-source : goal.invariant-loop-source
invariant-loop-source l =
    Tallied (λ c. c.source) l.circuits l.source-index l.sent × Tallied (λ c. c.destination) l.circuits l.source-index l.received
