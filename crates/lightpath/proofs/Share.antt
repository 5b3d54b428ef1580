-- Sharing: the rest of the product uses these laws of it and not its definition. Assumes nothing.
use Prim.Native.Nat.{ℕ, ◌+◌, ◌≤◌}
use mathlib.Core.Path.{◌≡◌, refl, sym, ◌∙◌}
use mathlib.Core.Logic.{◌≢◌}
use mathlib.Core.Bool.{Bool, true, false, or_comm, true≢false}
use native.Mathlib.Nat.{add_comm}
use native.Mathlib.Omega.{arith}
use lib.Dec.{eqb, leb}
use borrow.Author.Tests.{leb-true, leb-false, le-leb, eq-eqb}
use Rattle.basis.specs.Choice.{pick, bit}
use Rattle.basis.proofs.Bools.{and_left, and_right, fails}
use Rattle.basis.proofs.Weigh.{bit_most}
use Rattle.lightpath.specs.Place.{Direction, clockwise, counterclockwise}
use Rattle.lightpath.specs.Circuit.{Circuit, joins, hops, uses, adjacent, can_share, share_direction}
use Rattle.lightpath.proofs.Links.{on_ring_lem, return_total, Suits, lemma1}

-- a pair that shares is adjacent
pub can_adjacent : (N : ℕ) (d : Direction) (a b : Circuit) → can_share N d a b ≡ true → adjacent a b ≡ true
can_adjacent N clockwise a b h = and_left (adjacent a b) _ h
can_adjacent N counterclockwise a b h = and_left (adjacent a b) _ h

-- a pair that is not adjacent shares in no direction
pub apart_never : (N : ℕ) (d : Direction) (a b : Circuit) → adjacent a b ≡ false → can_share N d a b ≡ false
apart_never N clockwise a b h = rw h
apart_never N counterclockwise a b h = rw h

-- adjacent ones share by the total of their hops
module _ (N : ℕ) (a b : Circuit) (d : Direction) where
  pub share_clockwise : (r : Bool) (m n : ℕ) → d ≡ clockwise → r ≡ adjacent a b → r ≡ true → m ≡ hops N a → n ≡ hops N b
      → leb (m + n) N ≡ can_share N d a b
  share_clockwise r m n e f g h k = simp (e, ← f, g, ← h, ← k)

  pub share_counterclockwise : (r : Bool) (m n : ℕ) → d ≡ counterclockwise → r ≡ adjacent a b → r ≡ true → m ≡ hops N a → n ≡ hops N b
      → leb N (m + n) ≡ can_share N d a b
  share_counterclockwise r m n e f g h k = simp (e, ← f, g, ← h, ← k)

-- the order of a pair does not matter for adjacency
adjacent_swap : (a b : Circuit) → adjacent a b ≡ adjacent b a
adjacent_swap a b = or_comm (eqb a.destination b.source) (eqb b.destination a.source)

-- nor for sharing
pub can_swap : (N : ℕ) (d : Direction) (a b : Circuit) → can_share N d a b ≡ true → can_share N d b a ≡ true
can_swap N clockwise a b h = rw (adjacent_swap b a, add_comm (hops N b) (hops N a)) h
can_swap N counterclockwise a b h = rw (adjacent_swap b a, add_comm (hops N b) (hops N a)) h

-- the total of the hops of a pair that shares suits the direction
suits : (N : ℕ) (d : Direction) (a b : Circuit) → can_share N d a b ≡ true → Suits N d (hops N a + hops N b)
suits N clockwise a b h = let fits = and_right (adjacent a b) _ h in omega (arith, leb-true)
suits N counterclockwise a b h = let fits = and_right (adjacent a b) _ h in omega (arith, leb-true)

-- Paper: two circuits that can share in a direction use no link together in it
pub share_links : (N : ℕ) (d : Direction) (a b : Circuit) (l : ℕ) → can_share N d a b ≡ true → joins N a ≡ true → joins N b ≡ true → 1 ≤ l → l ≤ N
    → bit (uses N d a l) + bit (uses N d b l) ≤ 1
share_links N d a b l can ja jb low high = go (uses N d a l) refl (uses N d b l) refl
  where
    go : (x : Bool) → uses N d a l ≡ x → (y : Bool) → uses N d b l ≡ y → bit x + bit y ≤ 1
    go true ex true ey =
        absurd (lemma1 N a b l (on_ring_lem N a ja) (on_ring_lem N b jb) (can_adjacent N d a b can) low high d (suits N d a b can) ex ey)
    go true ex false ey = omega arith
    go false ex y ey = omega (arith, bit_most y)

-- 02, E1: "An adjacent pair whose hops total N can share in both directions."
pub can_both : (N : ℕ) (d : Direction) (a b : Circuit) → adjacent a b ≡ true → hops N a + hops N b ≡ N → can_share N d a b ≡ true
can_both N d a b h e = go d (can_share N d a b) refl
  where
    go : (d : Direction) (o : Bool) → can_share N d a b ≡ o → o ≡ true
    go d true q = refl
    go clockwise false q = let above = rw h at q in absurd (omega (arith, leb-false))
    go counterclockwise false q = let below = rw h at q in absurd (omega (arith, leb-false))

-- 02, E1: a circuit and its return "fit together either way round", on every ring
pub return_shares : (N : ℕ) (d : Direction) (a b : Circuit) → joins N a ≡ true → a.destination ≡ b.source → b.destination ≡ a.source
    → can_share N d a b ≡ true
return_shares N d a b j e f = can_both N d a b (rw (eq-eqb _ _ e)) (return_total N a b j e f)

-- Paper: an adjacent pair can share in at least one direction
pub can_one : (N : ℕ) (a b : Circuit) → adjacent a b ≡ true → can_share N (share_direction N a b) a b ≡ true
can_one N a b h = go (can_share N clockwise a b) refl
  where
    go : (o : Bool) → can_share N clockwise a b ≡ o → can_share N (pick o clockwise counterclockwise) a b ≡ true
    go true e = e
    go false e = let above = rw h at e in rw (h, le-leb N (hops N a + hops N b) (omega (arith, leb-false)))

-- 02, E1: a pair whose hops do not total N can share in one direction at most
pub can_only : (N : ℕ) (d : Direction) (a b : Circuit) → hops N a + hops N b ≢ N → can_share N d a b ≡ true → d ≡ share_direction N a b
can_only N clockwise a b n h = rw h
can_only N counterclockwise a b n h = rw (sym (fails (can_share N clockwise a b) (λ k. n (both k))))
  where
    both : can_share N clockwise a b ≡ true → hops N a + hops N b ≡ N
    both k = let most = and_right (adjacent a b) _ k in let least = and_right (adjacent a b) _ h in omega (arith, leb-true)

-- so one that cannot share in some direction can share in one only
pub can_other : (N : ℕ) (d e : Direction) (a b : Circuit) → can_share N d a b ≡ false → can_share N e a b ≡ true → e ≡ share_direction N a b
can_other N d e a b wrong can =
    can_only N e a b (λ total. true≢false (sym (can_both N d a b (can_adjacent N e a b can) total) ∙ wrong)) can
