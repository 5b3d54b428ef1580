-- "Looks .. is 0 after steps 1 and 2, and never above 8,256." That it is the position, from 1, of the first adjacent pair is its
-- definition. Assumes nothing.
use Prim.Native.Nat.{ℕ, ◌≤◌, zero-le}
use mathlib.Core.Path.{◌≡◌, refl}
use mathlib.Core.Bool.{Bool, true, false}
use mathlib.Core.List.{[], ◌∷◌}
use native.Mathlib.Nat.{mul-le-mul_right}
use native.Mathlib.Omega.{arith}
use lib.Dec.{ltb}
use lib.ListN.{length, length-append}
use borrow.Author.Tests.{ltb-false}
use Rattle.basis.specs.Choice.{pick}
use Rattle.basis.specs.Search.{pairs_of}
use Rattle.basis.proofs.Pairs.{pairs_length}
use Rattle.lightpath.specs.declared.Circuit.{Circuit}
use Rattle.channels.specs.Channels.{Channels}
use Rattle.channels.specs.Nonsharing.{nonsharing, standing_at}
use Rattle.channels.specs.declared.Standing.{Standing}
use Rattle.channels.proofs.Nonsharing.{nonsharing_most}
use Rattle.steps.specs.Plan.{Plan, joining, lighting}
use Rattle.steps.specs.Steps.{join_place, unlit_place, nowhere, newcomer, candidates, found_pair, looks, stands_right, x_of, rearranging, step_three, plan_of}
use Rattle.steps.specs.Ready.{Ready}

-- whichever of two plans is taken
picked : (o : Bool) (x y : Plan) (k : ℕ) → x.looks ≡ k → y.looks ≡ k → (pick o x y).looks ≡ k
picked true x y k h i = h
picked false x y k h i = i

-- each case of step 3 hands on the looks
rearranging_looks : (N : ℕ) (c : Circuit) (x a b : Standing) (k : ℕ) → (rearranging N c x a b k).looks ≡ k
rearranging_looks N c x a b k =
    picked (stands_right N a b a) _ _ k refl (picked (stands_right N a b b) _ _ k refl (picked (ltb b.place nowhere) _ _ k refl refl))

module _ (N m : ℕ) (t : Channels) (c : Circuit) (ready : Ready N m t c) where
  -- the nonsharing circuits of 128 places, and the new one
  few_candidates : length (candidates m t c) ≤ 129
  few_candidates = omega (arith, length-append (nonsharing m t) (newcomer c ∷ []), nonsharing_most m t, ready.low)

  -- have at most 129 × 128 / 2 pairs
  few_pairs : length (pairs_of (candidates m t c)) ≤ 8256
  few_pairs = omega (arith, pairs_length (candidates m t c), few_candidates, mul-le-mul_right (length (candidates m t c)) few_candidates)

  -- 01: looks is "never above 8,256"
  pub plan_looks : (plan_of N m t c).looks ≤ 8256
  unfolding plan_of
  plan_looks = go (ltb (join_place N m t c) m) refl (ltb (unlit_place N m t c) m) refl
    where
      go : (o : Bool) → ltb (join_place N m t c) m ≡ o → (r : Bool) → ltb (unlit_place N m t c) m ≡ r
          → (pick o (joining c (standing_at t (join_place N m t c))) (pick r (lighting c (unlit_place N m t c)) (step_three N m t c))).looks ≤ 8256
      go true e r f = zero-le
      go false e true f = zero-le
      go false e false f =
          omega (
            arith,
            rearranging_looks N c (x_of N m t (found_pair m t c).0 (found_pair m t c).1) (found_pair m t c).0 (found_pair m t c).1 (looks m t c),
            few_pairs,
            ready.pair (ltb-false _ _ e) (ltb-false _ _ f),
          )
