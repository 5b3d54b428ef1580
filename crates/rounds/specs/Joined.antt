-- A pair joined, by value. Assumes nothing. Serves proofs inside only.
use Rattle.std.specs.Prelude.{ℕ, ◌<◌, ◌≡◌, false}
use Rattle.basis.specs.Choice.{pick}
use Rattle.limits.specs.Limits.{place_count}
use Rattle.lightpath.specs.Circuit.{share_direction}
use Rattle.channels.specs.declared.Standing.{Standing}
use Rattle.channels.specs.Changes.{Placed}
use Rattle.moves.specs.Records.{moves_of}
use Rattle.steps.specs.Steps.{stands_right}
use Rattle.plan.specs.Planned.{changes_of}
use Rattle.tidying.specs.Round.{Round, to_member, to_unlit}
use Rattle.rounds.specs.Room.{Room, lowest_of}
pub use Rattle.rounds.specs.declared.Joined.{Joined}

-- how a pair is joined, by the unlit places that there are
abbrev pub join_in : ℕ → Room → Standing → Standing → Round
join_in N room a b =
    pick (stands_right N a b a) (to_member a b)
    (pick (stands_right N a b b) (to_member b a)
    (to_unlit (lowest_of room (share_direction N a.circuit b.circuit)) a b))

-- r is the round by value, and changes places that there are
pub record Joins (round : Round) (r : Joined) : Type 0 where
  pub is : r ≡ record { changes = changes_of round.changes; moves = moves_of round.moves }
  pub there : Placed r.changes

-- what joining a pair counts on: places that there are, and an unlit one where neither member stands right
pub record Joinable (N : ℕ) (room : Room) (a b : Standing) : Type 0 where
  pub nodes : 0 < N
  pub first : a.place < place_count
  pub second : b.place < place_count
  pub unlit : stands_right N a b a ≡ false → stands_right N a b b ≡ false → lowest_of room (share_direction N a.circuit b.circuit) < place_count
