-- 02, E5, "Tidying after busy months": one round, on the places t below the limit m of a ring of N nodes. Assumes nothing.
-- What `RingTable::tidy`, `decide_tidy` and `decide_tidy_valid` promise.
use Rattle.std.specs.Prelude.{ℕ, Bool, ◌&&◌, ◌||◌, List, [], ◌∷◌, ltb, length, get_or}
use Rattle.basis.specs.Choice.{pick}
use Rattle.basis.specs.Search.{first_place, pairs_of}
use Rattle.lightpath.specs.Circuit.{adjacent, share_direction}
use Rattle.slots.specs.Slot.{is_unlit, together}
use Rattle.slots.specs.declared.Slot.TheVariants.{Unlit as unlit}
use Rattle.channels.specs.Channels.{Channels}
use Rattle.channels.specs.Change.{◌gets◌, puts}
use Rattle.channels.specs.Nonsharing.{nonsharing, standing_at}
use Rattle.channels.specs.declared.Change.{Change}
use Rattle.channels.specs.declared.Standing.{Standing}
use Rattle.moves.specs.declared.Move.{Move}
use Rattle.steps.specs.Plan.{moves_to}
use Rattle.steps.specs.Steps.{stands_right, lowest_in}

-- what a round does: which places get what, and the moves in their order
pub record Round : Type 0 where
  pub changes : List Change
  pub moves : List Move

-- a stays, and b moves to it
abbrev pub to_member : Standing → Standing → Round
to_member a b = record {
  changes = (a.place gets together a.circuit b.circuit) ∷ (b.place gets unlit) ∷ [];
  moves = moves_to b a.place ∷ [];
}

-- both move to place p, "lower old place first": a's, which is listed first
abbrev pub to_unlit : ℕ → Standing → Standing → Round
to_unlit p a b = record {
  changes = (p gets together a.circuit b.circuit) ∷ (a.place gets unlit) ∷ (b.place gets unlit) ∷ [];
  moves = moves_to a p ∷ moves_to b p ∷ [];
}

-- "there is an unlit place below 2 × W in that direction": the lowest such place, or m where there is none
abbrev pub unlit_for : ℕ → ℕ → Channels → Standing → Standing → ℕ
unlit_for N m t a b = lowest_in is_unlit m t (share_direction N a.circuit b.circuit)

-- the pair can be joined: a member stands in a direction in which they can share, or neither does and there is such a place. "Other pairs
-- are passed over."
abbrev pub joinable : ℕ → ℕ → Channels → Standing × Standing → Bool
joinable N m t pair =
    stands_right N pair.0 pair.1 pair.0 || stands_right N pair.0 pair.1 pair.1
    || (adjacent pair.0.circuit pair.1.circuit && ltb (unlit_for N m t pair.0 pair.1) m)

-- "If a member stands in a direction they can share, the other moves to it, the lower place staying when both do", which is a's. "If neither
-- does .., both move to the lowest such place": there they can share in one direction only
abbrev pub join_pair : ℕ → ℕ → Channels → Standing → Standing → Round
join_pair N m t a b =
    pick (stands_right N a b a) (to_member a b)
    (pick (stands_right N a b b) (to_member b a)
    (to_unlit (unlit_for N m t a b) a b))

-- "the first pair of nonsharing circuits, in step 3's order, that can be joined": how many pairs are passed over before it,
abbrev pub passed_over : ℕ → ℕ → Channels → ℕ
passed_over N m t = first_place (joinable N m t) (pairs_of (nonsharing m t))

-- whether there is one,
abbrev pub can_round : ℕ → ℕ → Channels → Bool
can_round N m t = ltb (passed_over N m t) (length (pairs_of (nonsharing m t)))

-- and that pair
abbrev pub round_pair : ℕ → ℕ → Channels → Standing × Standing
round_pair N m t = get_or (pairs_of (nonsharing m t)) (passed_over N m t) (standing_at t 0, standing_at t 0)

-- what one round does
abbrev pub round_of : ℕ → ℕ → Channels → Round
round_of N m t = join_pair N m t (round_pair N m t).0 (round_pair N m t).1

-- the places after it
abbrev pub rounded : ℕ → ℕ → Channels → Channels
rounded N m t = puts (round_of N m t).changes t
