-- A lightpath's ends as a walk clockwise round the ring meets them: it is over the links from the one on to the other. Assumes nothing.
-- Serves proofs inside only.
use Rattle.std.specs.Prelude.{ℕ}
use Rattle.lightpath.specs.Place.{Direction, clockwise, counterclockwise}
use Rattle.lightpath.specs.declared.Circuit.{Circuit}

-- clockwise from its source, counterclockwise from its destination
abbrev pub start_of : Direction → Circuit → ℕ
start_of clockwise c = c.source
start_of counterclockwise c = c.destination

abbrev pub stop_of : Direction → Circuit → ℕ
stop_of clockwise c = c.destination
stop_of counterclockwise c = c.source
