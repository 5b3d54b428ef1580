-- 02, E5, "Tidying after busy months": the rounds together, on the places t below the limit m of a ring of N nodes. Assumes nothing.
-- What `RingTable::tidy`, `decide_tidy` and `decide_tidy_valid` promise.
use Rattle.std.specs.Prelude.{ℕ, zero, suc, List, [], ◌++◌}
use Rattle.basis.specs.Choice.{pick}
use Rattle.channels.specs.Channels.{Channels}
use Rattle.moves.specs.declared.Move.{Move}
use Rattle.tidying.specs.Round.{can_round, round_of, rounded}

-- the places afterwards, the number of rounds, and the moves in their order
pub record Tidying : Type 0 where
  pub places : Channels
  pub rounds : ℕ
  pub moves : List Move

-- "Rounds go on until no pair can be joined", at most so many
unfoldable pub tidy_within : ℕ → ℕ → ℕ → Channels → Tidying
tidy_within zero N m t = record { places = t; rounds = 0; moves = [] }
tidy_within (suc k) N m t =
    pick (can_round N m t)
    (let rest = tidy_within k N m (rounded N m t) in
    record { places = rest.places; rounds = suc rest.rounds; moves = (round_of N m t).moves ++ rest.moves })
    (record { places = t; rounds = 0; moves = [] })

-- "there are at most 64"
abbrev pub most_rounds : ℕ
most_rounds = 64

-- a tidying
abbrev pub tidy_up : ℕ → ℕ → Channels → Tidying
tidy_up N m t = tidy_within most_rounds N m t
