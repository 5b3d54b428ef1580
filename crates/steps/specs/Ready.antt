-- What making a plan asks for. Assumes nothing. Serves proofs inside only.
use Rattle.std.specs.Prelude.{ℕ, ◌≤◌, ◌<◌, length}
use Rattle.basis.specs.Search.{pairs_of}
use Rattle.limits.specs.Limits.{place_count}
use Rattle.lightpath.specs.declared.Circuit.{Circuit}
use Rattle.lightpath.specs.declared.Direction.{Direction}
use Rattle.channels.specs.Channels.{Channels}
use Rattle.steps.specs.Steps.{join_place, unlit_place, candidates, passed, lowest_alone}

-- the paper's two claims: where neither step 1 nor step 2 finds a place, there is an adjacent pair, and a nonsharing circuit each way round
pub record Ready (N m : ℕ) (t : Channels) (c : Circuit) : Type 0 where
  pub nodes : 0 < N
  pub low : m ≤ place_count
  pub pair : m ≤ join_place N m t c → m ≤ unlit_place N m t c → passed m t c < length (pairs_of (candidates m t c))
  pub lane : m ≤ join_place N m t c → m ≤ unlit_place N m t c → (d : Direction) → lowest_alone m t d < m
