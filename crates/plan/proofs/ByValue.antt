-- A plan of the steps by value does what the plan does: it is of one to three changes and up to three moves. Assumes nothing.
use Prim.Native.Nat.{ℕ, ◌≤◌}
use mathlib.Core.Path.{◌≡◌, refl}
use mathlib.Core.Bool.{Bool, true, false}
use mathlib.Core.List.{List, [], ◌∷◌}
use native.Mathlib.Omega.{arith}
use lib.Dec.{ltb}
use lib.ListN.{length}
use Rattle.basis.specs.Choice.{pick}
use Rattle.lightpath.specs.declared.Circuit.{Circuit}
use Rattle.channels.specs.Channels.{Channels}
use Rattle.channels.specs.Nonsharing.{standing_at}
use Rattle.channels.specs.declared.Standing.{Standing}
use Rattle.channels.specs.Change.{puts}
use Rattle.channels.specs.Changes.{in_order}
use Rattle.channels.specs.declared.Change.{Change}
use Rattle.channels.proofs.Puts.{puts_one, puts_two}
use Rattle.moves.specs.Records.{most_moves}
use Rattle.moves.proofs.Listed.{count_moves}
use Rattle.steps.specs.Steps.{nowhere, join_place, unlit_place, found_pair, looks, stands_right, x_of, exchanging, rearranging, step_three, plan_of}
use Rattle.steps.specs.Plan.{Plan, joining, lighting, one_move, two_moves, three_moves}
use Rattle.plan.specs.Planned.{changes_of, Planned, planned_of}

-- one to three changes by value do what their list does
pub carries : (l : List Change) (t : Channels) → 1 ≤ length l → length l ≤ 3 → puts (in_order (changes_of l)) t ≡ puts l t
carries [] t h k = absurd (omega arith)
carries (a ∷ []) t h k = puts_one a t
carries (a ∷ b ∷ []) t h k = puts_two a b t
carries (a ∷ b ∷ c ∷ []) t h k = refl
carries (a ∷ b ∷ c ∷ d ∷ l) t h k = absurd (omega arith)

-- how many changes and moves a plan is of
record Small (plan : Plan) : Type 0 where
  least : 1 ≤ length plan.changes
  most : length plan.changes ≤ 3
  few : length plan.moves ≤ most_moves

small_of : (b : Bool) (p q : Plan) → Small p → Small q → Small (pick b p q)
small_of true p q h k = h
small_of false p q h k = k

moves_small : (N : ℕ) (c : Circuit) (x a b : Standing) (k : ℕ) → Small (rearranging N c x a b k)
moves_small N c x a b k =
    small_of (stands_right N a b a) (one_move c a b k) (pick (stands_right N a b b) (one_move c b a k) (exchanging c x a b k))
    (record { least = omega arith; most = omega arith; few = omega arith })
    (small_of (stands_right N a b b) (one_move c b a k) (exchanging c x a b k) (record { least = omega arith; most = omega arith; few = omega arith })
    (small_of (ltb b.place nowhere) (three_moves c x a b k) (two_moves c x a k) (record { least = omega arith; most = omega arith; few = omega arith })
    (record { least = omega arith; most = omega arith; few = omega arith })))

plan_small : (N m : ℕ) (t : Channels) (c : Circuit) → Small (plan_of N m t c)
unfolding plan_of
plan_small N m t c =
    let p = join_place N m t c in
    let q = unlit_place N m t c in
    small_of (ltb p m) (joining c (standing_at t p)) (pick (ltb q m) (lighting c q) (step_three N m t c)) (record { least = omega arith; most = omega arith; few = omega arith })
    (small_of (ltb q m) (lighting c q) (step_three N m t c) (record { least = omega arith; most = omega arith; few = omega arith })
    (moves_small N c (x_of N m t (found_pair m t c).0 (found_pair m t c).1) (found_pair m t c).0 (found_pair m t c).1 (looks m t c)))

-- the plan of the steps by value changes the places as the plan does, and counts its moves
module _ (N m : ℕ) (t : Channels) (c : Circuit) (p : Planned) (e : p ≡ planned_of (plan_of N m t c)) where
  pub planned_changes : puts (in_order p.changes) t ≡ puts (plan_of N m t c).changes t
  planned_changes = let s = plan_small N m t c in rw e (carries (plan_of N m t c).changes t s.least s.most)

  pub planned_count : p.moves.count ≡ length (plan_of N m t c).moves
  planned_count = rw e (count_moves (plan_of N m t c).moves (plan_small N m t c).few)
