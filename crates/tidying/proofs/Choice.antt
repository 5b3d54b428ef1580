-- 02, E5: the pair that a round takes, and who of it moves. "If a member stands in a direction they can share, the other moves to it, the lower
-- place staying when both do. If neither does .., both move to the lowest such place, lower old place first." Assumes nothing.
use Prim.Native.Nat.{ℕ, ◌≤◌, ◌<◌}
use mathlib.Core.Path.{◌≡◌}
use mathlib.Core.Bool.{true, false, ◌&&◌}
use mathlib.Core.List.{[], ◌∷◌}
use native.Mathlib.Omega.{arith}
use lib.Dec.{ltb}
use lib.ListN.{length}
use borrow.Author.Tests.{ltb-true, lt-ltb}
use Rattle.basis.specs.Count.{All}
use Rattle.basis.specs.Search.{pairs_of}
use Rattle.basis.proofs.Bools.{and_left, and_right}
use Rattle.basis.proofs.Search.{all_at, found_passes}
use Rattle.basis.proofs.Pairs.{pairs_all}
use Rattle.lightpath.specs.Place.{direction_of}
use Rattle.lightpath.specs.Circuit.{adjacent, can_share, share_direction}
use Rattle.lightpath.specs.declared.Direction.{Direction}
use Rattle.lightpath.proofs.Share.{can_one, can_other}
use Rattle.slots.specs.Slot.{is_unlit}
use Rattle.channels.specs.Channels.{Channels, at}
use Rattle.channels.specs.Nonsharing.{nonsharing, standing_at}
use Rattle.channels.specs.declared.Standing.{Standing}
use Rattle.channels.proofs.Nonsharing.{Stands, Lower, nonsharing_stand, nonsharing_ordered}
use Rattle.steps.specs.Plan.{moves_to}
use Rattle.steps.specs.Steps.{nowhere, stands_right}
use Rattle.steps.proofs.Searches.{lowest_passes, lowest_direction, lowest_least}
use Rattle.tidying.specs.Round.{unlit_for, joinable, passed_over, can_round, round_pair, round_of}

-- a pair of nonsharing circuits below m, the lower place first
abbrev pub Pair : ℕ → Channels → Standing × Standing → Type 0
Pair m t pair = Stands m t pair.0 × Stands m t pair.1 × Lower pair.0 pair.1

-- each pair listed is one
pub pairs_stand : (m : ℕ) (t : Channels) → m ≤ length t → All (Pair m t) (pairs_of (nonsharing m t))
pairs_stand m t within = pairs_all (Stands m t) Lower (nonsharing m t) (nonsharing_stand m t within) (nonsharing_ordered m t within)

module _ (N m : ℕ) (t : Channels) (within : m ≤ length t) (can : can_round N m t ≡ true) where
  -- the pair that a round takes
  abbrev a : Standing
  a = (round_pair N m t).0

  abbrev b : Standing
  b = (round_pair N m t).1

  -- it is a pair, which can be joined
  pub round_pair_lem : Pair m t (round_pair N m t)
  round_pair_lem = all_at (Pair m t) (standing_at t 0, standing_at t 0) (pairs_of (nonsharing m t)) (pairs_stand m t within) (passed_over N m t) (ltb-true _ _ can)

  pub round_joinable : joinable N m t (round_pair N m t) ≡ true
  round_joinable = found_passes (joinable N m t) (standing_at t 0, standing_at t 0) (pairs_of (nonsharing m t)) (ltb-true _ _ can)

  module _ (low : m ≤ nowhere) where
    -- a member stands right exactly where it stands in a direction in which they can share
    right_is : (x : Standing) → Stands m t x → stands_right N a b x ≡ can_share N (direction_of x.place) a.circuit b.circuit
    right_is x s = rw (lt-ltb x.place nowhere (omega (arith, s.low)))

    -- 02, E5: "the lower place staying when both do": where the member at the lower place stands in a direction in which the pair can share,
    -- it stays, whether or not the other does so too
    pub lower_stays : can_share N (direction_of a.place) a.circuit b.circuit ≡ true
        → (a.place < b.place) × ((round_of N m t).moves ≡ moves_to b a.place ∷ [])
    lower_stays first = (round_pair_lem.2, rw (right_is a round_pair_lem.0, first))

    module _ (wrong : can_share N (direction_of a.place) a.circuit b.circuit ≡ false) where
      -- 02, E5: where only the member at the higher place does, that one stays
      pub higher_stays : can_share N (direction_of b.place) a.circuit b.circuit ≡ true → (round_of N m t).moves ≡ moves_to a b.place ∷ []
      higher_stays second = rw (right_is a round_pair_lem.0, wrong, right_is b round_pair_lem.1, second)

      module _ (neither : can_share N (direction_of b.place) a.circuit b.circuit ≡ false) where
        -- where neither does, both move to this place,
        abbrev p : ℕ
        p = unlit_for N m t a b

        -- which is sought in this direction,
        abbrev d : Direction
        d = share_direction N a.circuit b.circuit

        -- and found
        there : (adjacent a.circuit b.circuit && ltb p m) ≡ true
        there = rw (right_is a round_pair_lem.0, wrong, right_is b round_pair_lem.1, neither) at round_joinable

        -- 02, E5: where neither does, both move to a place below 2 × W
        pub unlit_below : p < m
        unlit_below = ltb-true _ _ (and_right (adjacent a.circuit b.circuit) _ there)

        -- 02, E5: that place is unlit, and of a direction in which they can share
        pub unlit_shares : (is_unlit (at t p) ≡ true) × (can_share N (direction_of p) a.circuit b.circuit ≡ true)
        unlit_shares = (
          lowest_passes is_unlit m t d unlit_below,
          rw (lowest_direction is_unlit m t d unlit_below) (can_one N a.circuit b.circuit (and_left _ _ there)),
        )

        -- 02, E5: "both move to the lowest such place": none lower is unlit and of such a direction
        pub unlit_lowest : (q : ℕ) → q < m → is_unlit (at t q) ≡ true → can_share N (direction_of q) a.circuit b.circuit ≡ true → p ≤ q
        unlit_lowest q l dark shares =
            lowest_least is_unlit m t d q l (can_other N (direction_of a.place) (direction_of q) a.circuit b.circuit wrong shares) dark

        -- 02, E5: "lower old place first": the member from the lower place is named first
        pub lower_first : (a.place < b.place) × ((round_of N m t).moves ≡ moves_to a p ∷ moves_to b p ∷ [])
        lower_first = (round_pair_lem.2, rw (right_is a round_pair_lem.0, wrong, right_is b round_pair_lem.1, neither))
