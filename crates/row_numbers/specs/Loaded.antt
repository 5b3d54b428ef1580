-- The bytes of a load report, two for each link. Assumes nothing. Serves proofs inside only.
use Rattle.std.specs.Prelude.{ℕ, ◌+◌, ◌-◌, ◌*◌, ◌≤◌, ◌≡◌, List, length, get_or}
use Rattle.lightpath.specs.declared.Direction.{Direction}
use Rattle.lightpath.specs.declared.Direction.TheVariants.{Clockwise as clockwise, Counterclockwise as counterclockwise}
use Rattle.ring.specs.declared.RingTable.{RingTable}
use Rattle.load.specs.Load.{link_load}

-- the byte of link l in direction d: that of link 1 clockwise stands first, and counterclockwise after it
abbrev pub load_at : List ℕ → Direction → ℕ → ℕ
load_at bytes clockwise l = get_or bytes (2 * (l - 1)) 0
load_at bytes counterclockwise l = get_or bytes (2 * (l - 1) + 1) 0

-- the bytes are the loads of a table's links
pub record Loaded (t : RingTable) (bytes : List ℕ) : Type 0 where
  pub room : 2 * t.nodes ≤ length bytes
  pub each : (d : Direction) (l : ℕ) → 1 ≤ l → l ≤ t.nodes → load_at bytes d l ≡ link_load t.nodes t.channels d l
