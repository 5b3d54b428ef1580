-- 02, E1: "In step 3 such a pair has a member in a fitting direction, so 3a applies: the lower place stays." A pair whose hops total N never
-- reaches 3b, so that "the direction in which the pair can share" is one there. Assumes nothing.
use Prim.Native.Nat.{ℕ, ◌+◌, ◌≤◌, ◌<◌}
use mathlib.Core.Path.{◌≡◌, sym, ◌∙◌}
use mathlib.Core.Bool.{true, false, true≢false}
use native.Mathlib.Omega.{arith}
use lib.ListN.{length}
use borrow.Author.Tests.{lt-ltb, le-ltb}
use Rattle.basis.specs.Search.{pairs_of}
use Rattle.basis.proofs.Bools.{and_both}
use Rattle.basis.proofs.Search.{found_passes}
use Rattle.lightpath.specs.Place.{direction_of}
use Rattle.lightpath.specs.Circuit.{hops, adjacent, can_share, share_direction}
use Rattle.lightpath.specs.declared.Circuit.{Circuit}
use Rattle.lightpath.specs.declared.Direction.{Direction}
use Rattle.lightpath.proofs.Share.{can_both, can_only}
use Rattle.channels.specs.Channels.{Channels}
use Rattle.channels.specs.Nonsharing.{adjacent_pair}
use Rattle.channels.specs.declared.Standing.{Standing}
use Rattle.steps.specs.Plan.{one_move}
use Rattle.steps.specs.Steps.{join_place, unlit_place, nowhere, newcomer, candidates, found_pair, looks, stands_right, plan_of}
use Rattle.steps.specs.Ready.{Ready}
use Rattle.steps.proofs.Candidates.{Couple, found_couple, both_old}

-- an adjacent pair whose hops total N can share wherever a member stands
stands_right_lem : (N : ℕ) (a b x : Standing) → adjacent a.circuit b.circuit ≡ true → hops N a.circuit + hops N b.circuit ≡ N
    → x.place < nowhere → stands_right N a b x ≡ true
stands_right_lem N a b x adj total l =
    and_both _ _ (lt-ltb x.place nowhere l) (can_both N (direction_of x.place) a.circuit b.circuit adj total)

module _ (N m : ℕ) (t : Channels) (c : Circuit) (within : m ≤ length t) (ready : Ready N m t c)
    (none : m ≤ join_place N m t c) (lit : m ≤ unlit_place N m t c) where
  -- the pair that step 3 finds
  abbrev a : Standing
  a = (found_pair m t c).0

  abbrev b : Standing
  b = (found_pair m t c).1

  couple : Couple m t c (a, b)
  couple = found_couple m t c within ready.low (ready.pair none lit)

  meet : adjacent a.circuit b.circuit ≡ true
  meet = found_passes adjacent_pair (newcomer c, newcomer c) (pairs_of (candidates m t c)) (ready.pair none lit)

  first_right : hops N a.circuit + hops N b.circuit ≡ N → stands_right N a b a ≡ true
  first_right total = stands_right_lem N a b a meet total (omega (arith, couple.0.low, ready.low))

  -- 02, E1: "3a applies: the lower place stays": where step 3 finds a pair whose hops total N, both members are old, and the one at the lower
  -- place stays
  pub return_stays : hops N a.circuit + hops N b.circuit ≡ N
      → (a.place < b.place) × (b.place < nowhere) × (plan_of N m t c ≡ one_move c a b (looks m t c))
  unfolding plan_of
  return_stays total = (
    couple.2,
    both_old N m t c within ready none a b couple (first_right total),
    rw (le-ltb (join_place N m t c) m none, le-ltb (unlit_place N m t c) m lit, first_right total),
  )

  -- 02, E1: where the first member of the pair does not stand right, as in 3b, the pair can share in one direction only
  pub exchange_direction : stands_right N a b a ≡ false → (d : Direction) → can_share N d a.circuit b.circuit ≡ true
      → d ≡ share_direction N a.circuit b.circuit
  exchange_direction wrong d can =
      can_only N d a.circuit b.circuit (λ total. true≢false (sym (first_right total) ∙ wrong)) can
