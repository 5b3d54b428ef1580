-- What a question that is not refused keeps to. Assumes nothing. Serves proofs inside only.
use Rattle.std.specs.Prelude.{ℕ, ◌≤◌, ◌<◌}
use Rattle.limits.specs.Limits.{most_wavelengths}
use Rattle.ports.specs.Ports.{wavelengths}
use Rattle.ring.specs.declared.RingTable.{RingTable}

-- link and wavelength of a question that is not refused, on a ring that meets the rules: W is at most 64 there, so that the place asked
-- for is one of the 128. The direction needs no fact: `way` takes every number but 0 as counterclockwise
pub record Asked (t : RingTable) (l w : ℕ) : Type 0 where
  pub low : 1 ≤ l
  pub high : l ≤ t.nodes
  pub below : w < wavelengths t.ports
  pub few : wavelengths t.ports ≤ most_wavelengths
