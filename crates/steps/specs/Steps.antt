-- 01, "Opening a circuit": steps 1 to 3, on the places t below the limit m of a ring of N nodes. Assumes nothing.
-- What `RingTable::open`, `decide` and `decide_valid` promise; what a tidying says of directions and places it has from here.
use Rattle.std.specs.Prelude.{ℕ, suc, Bool, ◌&&◌, List, [], ◌∷◌, ◌++◌, ltb, get_or}
use Rattle.basis.specs.Choice.{pick}
use Rattle.basis.specs.Search.{first_below, first_place, pairs_of}
use Rattle.limits.specs.Limits.{place_count}
use Rattle.lightpath.specs.Place.{direction_of, same_direction, other_way}
use Rattle.lightpath.specs.declared.Direction.{Direction}
use Rattle.lightpath.specs.Circuit.{shorter_way, can_share, share_direction}
use Rattle.lightpath.specs.declared.Circuit.{Circuit}
use Rattle.slots.specs.Slot.{is_unlit, is_alone, first_of}
use Rattle.slots.specs.declared.Slot.{Slot}
use Rattle.channels.specs.Channels.{Channels, at}
use Rattle.channels.specs.Nonsharing.{nonsharing, standing_at, adjacent_pair}
use Rattle.channels.specs.declared.Standing.{Standing}
use Rattle.steps.specs.Plan.{Plan, joining, lighting, one_move, two_moves, three_moves}

-- Step 1. Go through nonsharing circuits by rising place. The new one joins the first with which it is adjacent and can share in that
-- place's direction.

abbrev pub can_join : ℕ → Circuit → ℕ → Slot → Bool
can_join N c p s = is_alone s && can_share N (direction_of p) (first_of s) c

abbrev pub join_place : ℕ → ℕ → Channels → Circuit → ℕ
join_place N m t c = first_below m (λ p. can_join N c p (at t p))

-- Step 2. Otherwise it takes the lowest unlit place below 2 × W in the direction where the circuit uses fewer links, clockwise when equal, and
-- goes to the other direction only if none is unlit (02, E6). The lowest place of direction d whose content passes a test, or m where there is
-- none,
abbrev pub lowest_in : (Slot → Bool) → ℕ → Channels → Direction → ℕ
lowest_in f m t d = first_below m (λ p. f (at t p) && same_direction (direction_of p) d)

-- the lowest unlit one of direction d, or where there is none of the other direction,
abbrev pub unlit_preferring : ℕ → Channels → Direction → ℕ
unlit_preferring m t d = pick (ltb (lowest_in is_unlit m t d) m) (lowest_in is_unlit m t d) (lowest_in is_unlit m t (other_way d))

-- and step 2's place
unfoldable pub unlit_place : ℕ → ℕ → Channels → Circuit → ℕ
unlit_place N m t c = unlit_preferring m t (shorter_way N c)

-- Step 3. Otherwise list the nonsharing circuits by rising place, the new one last. It has no place yet and is listed at 128, nowhere:

abbrev pub nowhere : ℕ
nowhere = place_count

-- the new circuit as it is listed,
abbrev pub newcomer : Circuit → Standing
newcomer c = record { place = nowhere; circuit = c }

-- and the list
abbrev pub candidates : ℕ → Channels → Circuit → List Standing
candidates m t c = nonsharing m t ++ newcomer c ∷ []

-- Take pairs by first member, then second. The search stops at the first adjacent pair: how many pairs of a list are tested before it,
abbrev pub passed_in : List Standing → ℕ
passed_in l = first_place adjacent_pair (pairs_of l)

-- and of that list
abbrev pub passed : ℕ → Channels → Circuit → ℕ
passed m t c = passed_in (candidates m t c)

-- and that pair
abbrev pub found_pair : ℕ → Channels → Circuit → Standing × Standing
found_pair m t c = get_or (pairs_of (candidates m t c)) (passed m t c) (newcomer c, newcomer c)

-- Looks is the number of pairs tested, that one included; it is 0 after steps 1 and 2, and never above 8,256.
abbrev pub looks : ℕ → Channels → Circuit → ℕ
looks m t c = suc (passed m t c)

-- 3a. A member already stands in direction d (then both are old): x does, in a direction in which the pair a and b can share. Of a pair
-- whose hops total N both do where both are old (02, E1).
abbrev pub stands_right : ℕ → Standing → Standing → Standing → Bool
stands_right N a b x = ltb x.place nowhere && can_share N (direction_of x.place) a.circuit b.circuit

-- 3b. Neither does. Let x be the nonsharing circuit at the lowest place c of direction d: that place,
abbrev pub lowest_alone : ℕ → Channels → Direction → ℕ
lowest_alone m t d = lowest_in is_alone m t d

-- and that circuit, d being the direction in which a and b can share: where neither stands right there is only one
abbrev pub x_of : ℕ → ℕ → Channels → Standing → Standing → Standing
x_of N m t a b = standing_at t (lowest_alone m t (share_direction N a.circuit b.circuit))

-- With an old member a and the new one: two moves. With old members a then b: three moves.
abbrev pub exchanging : Circuit → Standing → Standing → Standing → ℕ → Plan
exchanging c x a b k = pick (ltb b.place nowhere) (three_moves c x a b k) (two_moves c x a k)

-- step 3 with the pair a and b, found after k looks, and x. 3a: the member that stands right stays; if both do, the lower place stays, which
-- is a's, since a is listed first
abbrev pub rearranging : ℕ → Circuit → Standing → Standing → Standing → ℕ → Plan
rearranging N c x a b k = pick (stands_right N a b a) (one_move c a b k) (pick (stands_right N a b b) (one_move c b a k) (exchanging c x a b k))

-- the plan of step 3
abbrev pub step_three : ℕ → ℕ → Channels → Circuit → Plan
step_three N m t c = rearranging N c (x_of N m t (found_pair m t c).0 (found_pair m t c).1) (found_pair m t c).0 (found_pair m t c).1 (looks m t c)

-- the first of the steps that serves the new circuit
unfoldable pub plan_of : ℕ → ℕ → Channels → Circuit → Plan
plan_of N m t c =
    pick (ltb (join_place N m t c) m) (joining c (standing_at t (join_place N m t c)))
    (pick (ltb (unlit_place N m t c) m) (lighting c (unlit_place N m t c))
    (step_three N m t c))
