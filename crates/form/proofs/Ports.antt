-- The port counts of the nodes, and the zeros after them. Assumes nothing.
use Prim.Native.Nat.{ℕ, ◌-◌}
use mathlib.Core.Path.{◌≡◌, ◌∙◌}
use mathlib.Core.List.{List, ◌++◌}
use native.Mathlib.Omega.{arith}
use lib.ListN.{length, take, drop, replicate, take-append-drop, length-drop}
use Rattle.basis.specs.Count.{total}
use Rattle.basis.proofs.Sums.{zeros}
use Rattle.basis.proofs.Fold.{total_parts}

module _ (N : ℕ) (ks : List ℕ) where
  -- the counts of the nodes add up to all where the others are zero
  pub total_nodes : total (drop N ks) ≡ 0 → total (take N ks) ≡ total ks
  total_nodes e = omega (arith, total_parts ks N)

  pub nodes_zeros : total (drop N ks) ≡ 0 → take N ks ++ replicate (length ks - N) 0 ≡ ks
  nodes_zeros e = let r : drop N ks ≡ replicate (length ks - N) 0 = zeros (drop N ks) e ∙ rw length-drop in rw (← r) (take-append-drop N ks)
