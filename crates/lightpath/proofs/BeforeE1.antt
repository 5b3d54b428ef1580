-- The sharing rule before document 02's request E1, beside the one now. Assumes nothing.
use Prim.Native.Nat.{ℕ, ◌+◌, ◌≤◌, ◌<◌}
use mathlib.Core.Path.{◌≡◌, refl, sym}
use mathlib.Core.Logic.{◌≢◌}
use mathlib.Core.Bool.{true, false}
use native.Mathlib.Omega.{arith}
use borrow.Author.Tests.{leb-true, ltb-true, le-leb, lt-ltb}
use Rattle.basis.proofs.Bools.{and_left, and_right, and_both, same_test, fails}
use Rattle.lightpath.specs.Place.{Direction, clockwise, counterclockwise}
use Rattle.lightpath.specs.Circuit.{Circuit, hops, adjacent, can_share}
use Rattle.lightpath.specs.BeforeE1.{can_share_before_e1}
use Rattle.lightpath.proofs.Share.{can_adjacent}

-- 02, E1: before it, a pair whose hops total N could not share counterclockwise
pub before_one : (N : ℕ) (a b : Circuit) → hops N a + hops N b ≡ N → can_share_before_e1 N counterclockwise a b ≡ false
before_one N a b e =
    sym (fails (can_share_before_e1 N counterclockwise a b) (λ h. let more = and_right (adjacent a b) _ h in omega (arith, leb-true)))

-- 02, E1: a pair that could share before it can share
pub before_can : (N : ℕ) (d : Direction) (a b : Circuit) → can_share_before_e1 N d a b ≡ true → can_share N d a b ≡ true
before_can N clockwise a b h = h
before_can N counterclockwise a b h =
    let more : N < hops N a + hops N b = ltb-true _ _ (and_right (adjacent a b) _ h) in
    and_both _ _ (and_left (adjacent a b) _ h) (le-leb N (hops N a + hops N b) (omega arith))

-- 02, E1: but for a total of N counterclockwise, a pair can share exactly where it could before
pub as_before : (N : ℕ) (d : Direction) (a b : Circuit) → (hops N a + hops N b ≡ N → d ≡ clockwise) → can_share N d a b ≡ can_share_before_e1 N d a b
as_before N clockwise a b only = refl
as_before N counterclockwise a b only = same_test _ _ strict (before_can N counterclockwise a b)
  where
    other : hops N a + hops N b ≢ N
    other e = let turned = only e in let z : ◌≡◌ {A = ℕ} 0 1 = cc in absurd (omega arith)

    strict : can_share N counterclockwise a b ≡ true → can_share_before_e1 N counterclockwise a b ≡ true
    strict h =
        let least : N ≤ hops N a + hops N b = leb-true _ _ (and_right (adjacent a b) _ h) in
        and_both _ _ (can_adjacent N counterclockwise a b h) (lt-ltb N (hops N a + hops N b) (omega (arith, other)))
