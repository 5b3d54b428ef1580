-- A circuit's hops are 1 to N − 1. Lemma 1: two adjacent circuits whose hops total at most N clockwise, or at least N counterclockwise,
-- use no link together in that direction. Assumes nothing.
use Prim.Native.Nat.{ℕ, ◌+◌, ◌-◌, ◌≤◌, ◌<◌}
use mathlib.Core.Path.{◌≡◌, ◌∙◌}
use mathlib.Core.Logic.{◌⊎◌, inl, inr}
use mathlib.Core.Bool.{true}
use native.Mathlib.Nat.{add_comm, mod-lt, mod-eq_of_lt, add-mod_right}
use native.Mathlib.Decide.{dec_le}
use native.Mathlib.Omega.{arith}
use lib.Dec.{eqb}
use borrow.Author.Tests.{eqb-true, eqb-false, leb-true, ltb-true, ltb-false, not-true}
use Rattle.basis.proofs.Bools.{and_left, and_right, or_true}
use Rattle.lightpath.specs.Place.{Direction, clockwise, counterclockwise}
use Rattle.lightpath.specs.Circuit.{Circuit, joins, ahead, hops, uses, adjacent}

-- source and destination are on the ring and different
pub record OnRing (N : ℕ) (c : Circuit) : Type 0 where
  pub source_low : 1 ≤ c.source
  pub source_high : c.source ≤ N
  pub dest_low : 1 ≤ c.destination
  pub dest_high : c.destination ≤ N
  pub apart : c.source ≡ c.destination → ⊥

-- the computed test says so
pub on_ring_lem : (N : ℕ) (c : Circuit) → joins N c ≡ true → OnRing N c
on_ring_lem N c h = record {
  source_low = leb-true _ _ (search (and_left, and_right));
  source_high = leb-true _ _ (search (and_left, and_right));
  dest_low = leb-true _ _ (search (and_left, and_right));
  dest_high = leb-true _ _ (search (and_left, and_right));
  apart = eqb-false _ _ (not-true _ (search (and_left, and_right)));
}

-- a circuit on a ring is on a longer one
pub wider : (M N : ℕ) (c : Circuit) → M ≤ N → OnRing M c → OnRing N c
wider M N c l o = record { source_low = o.source_low; source_high = omega arith; dest_low = o.dest_low; dest_high = omega arith; apart = o.apart }

-- the way clockwise from one node to another is less than once round the ring
ahead_lt : (N s x : ℕ) → 1 ≤ N → ahead N s x < N
unfolding ahead
ahead_lt N s x h = mod-lt (x + N - s) h

-- it is x − s where x comes after s, and otherwise N more
abbrev pub Ahead : ℕ → ℕ → ℕ → Type 0
Ahead N s x = ((s ≤ x) × (ahead N s x ≡ x - s)) ⊎ ((x < s) × (ahead N s x ≡ x + N - s))

-- which is what (x − s) modulo N comes to
pub ahead_cases : (N s x : ℕ) → 1 ≤ s → s ≤ N → 1 ≤ x → x ≤ N → Ahead N s x
unfolding ahead
ahead_cases N s x sl sh xl xh = go (dec_le s x)
  where
    go : Dec (s ≤ x) → Ahead N s x
    go (yes h) = let e : x + N - s ≡ (x - s) + N = omega arith in inl (h, rw e (add-mod_right (x - s) N ∙ mod-eq_of_lt (omega arith)))
    go (no h) = inr (omega arith, mod-eq_of_lt (omega arith))

-- 01: a circuit's hops are "from 1 to N − 1"
pub hops_range : (N : ℕ) (c : Circuit) → joins N c ≡ true → (1 ≤ hops N c) × (hops N c < N)
hops_range N c h = (
  low (ahead_cases N c.source c.destination o.source_low o.source_high o.dest_low o.dest_high),
  ahead_lt N c.source c.destination (omega (arith, o)),
)
  where
    o : OnRing N c
    o = on_ring_lem N c h

    low : Ahead N c.source c.destination → 1 ≤ hops N c
    low (inl a) = omega (arith, o)
    low (inr a) = omega (arith, o)

-- 02, E1: the hops of a circuit and its return total N: together they go once round the ring
pub return_total : (N : ℕ) (a b : Circuit) → joins N a ≡ true → a.destination ≡ b.source → b.destination ≡ a.source → hops N a + hops N b ≡ N
return_total N a b h e f =
    rw (← e, f)
    (round (ahead_cases N a.source a.destination o.source_low o.source_high o.dest_low o.dest_high)
    (ahead_cases N a.destination a.source o.dest_low o.dest_high o.source_low o.source_high))
  where
    o : OnRing N a
    o = on_ring_lem N a h

    round : Ahead N a.source a.destination → Ahead N a.destination a.source
        → ahead N a.source a.destination + ahead N a.destination a.source ≡ N
    round (inl x) (inl y) = absurd (o.apart (omega arith))
    round (inl x) (inr y) = omega (arith, o)
    round (inr x) (inl y) = omega (arith, o)
    round (inr x) (inr y) = absurd (omega arith)

-- two end to end that go once round the ring are a circuit and its return
ends_back : (N : ℕ) (a b : Circuit) → OnRing N a → OnRing N b → a.destination ≡ b.source → hops N a + hops N b ≡ N → b.destination ≡ a.source
ends_back N a b oa ob e h =
    go (ahead_cases N a.source a.destination oa.source_low oa.source_high oa.dest_low oa.dest_high)
    (ahead_cases N b.source b.destination ob.source_low ob.source_high ob.dest_low ob.dest_high)
  where
    go : Ahead N a.source a.destination → Ahead N b.source b.destination → b.destination ≡ a.source
    go (inl x) (inl y) = absurd (omega (arith, oa, ob))
    go (inl x) (inr y) = omega (arith, oa, ob)
    go (inr x) (inl y) = omega (arith, oa, ob)
    go (inr x) (inr y) = absurd (omega (arith, oa, ob))

-- 02, E1: every adjacent pair whose hops total N is a circuit and its return
pub total_return : (N : ℕ) (a b : Circuit) → joins N a ≡ true → joins N b ≡ true → adjacent a b ≡ true → hops N a + hops N b ≡ N
    → (a.destination ≡ b.source) × (b.destination ≡ a.source)
total_return N a b ja jb adj h = go (or_true (eqb a.destination b.source) (eqb b.destination a.source) adj)
  where
    go : (eqb a.destination b.source ≡ true) ⊎ (eqb b.destination a.source ≡ true)
        → (a.destination ≡ b.source) × (b.destination ≡ a.source)
    go (inl e) = let x = eqb-true a.destination b.source e in (x, ends_back N a b (on_ring_lem N a ja) (on_ring_lem N b jb) x h)
    go (inr e) =
        let x = eqb-true b.destination a.source e in
        (ends_back N b a (on_ring_lem N b jb) (on_ring_lem N a ja) x (rw (add_comm (hops N b) (hops N a)) h), x)

-- from s over m to l it is as far as from s to l, or once more round the ring
abbrev Chain : ℕ → ℕ → ℕ → ℕ → Type 0
Chain N s m l = (ahead N s m + ahead N m l ≡ ahead N s l) ⊎ (ahead N s m + ahead N m l ≡ ahead N s l + N)

-- it holds in each case of the three distances
module _ (N s m l : ℕ) (sh : s ≤ N) (mh : m ≤ N) (lh : l ≤ N) where
  chain : Ahead N s m → Ahead N m l → Ahead N s l → Chain N s m l
  chain (inl a) (inl b) (inl c) = inl (omega arith)
  chain (inl a) (inl b) (inr c) = inl (omega arith)
  chain (inl a) (inr b) (inl c) = inr (omega arith)
  chain (inl a) (inr b) (inr c) = inl (omega arith)
  chain (inr a) (inl b) (inl c) = inr (omega arith)
  chain (inr a) (inl b) (inr c) = inl (omega arith)
  chain (inr a) (inr b) (inl c) = inr (omega arith)
  chain (inr a) (inr b) (inr c) = inr (omega arith)

-- the total of the hops of two circuits suits a direction
abbrev pub Suits : ℕ → Direction → ℕ → Type 0
Suits N clockwise total = total ≤ N
Suits N counterclockwise total = N ≤ total

-- where the first ends at the source of the second
clash : (N : ℕ) (a b : Circuit) (l : ℕ) → OnRing N a → OnRing N b → a.destination ≡ b.source → 1 ≤ l → l ≤ N → (d : Direction)
    → Suits N d (hops N a + hops N b) → uses N d a l ≡ true → uses N d b l ≡ true → ⊥
clash N a b l oa ob e ll lh d k ua ub =
    go d k ua ub
    (chain N a.source b.source l oa.source_high ob.source_high lh
    (ahead_cases N a.source b.source oa.source_low oa.source_high ob.source_low ob.source_high)
    (ahead_cases N b.source l ob.source_low ob.source_high ll lh)
    (ahead_cases N a.source l oa.source_low oa.source_high ll lh))
  where
    ha : hops N a ≡ ahead N a.source b.source
    ha = rw e

    past : (c : Circuit) → uses N counterclockwise c l ≡ true → hops N c ≤ ahead N c.source l
    past c u = ltb-false _ _ (not-true _ u)

    go : (d : Direction) → Suits N d (hops N a + hops N b) → uses N d a l ≡ true → uses N d b l ≡ true → Chain N a.source b.source l → ⊥
    go clockwise k ua ub (inl c) = omega (arith, ha, ltb-true)
    go clockwise k ua ub (inr c) = omega (arith, ha, ltb-true)
    go counterclockwise k ua ub (inl c) = omega (arith, ha, past a ua, past b ub, ahead_lt N a.source l (omega arith))
    go counterclockwise k ua ub (inr c) = omega (arith, ha, past a ua, past b ub, ahead_lt N b.source l (omega arith))

-- Paper: Lemma 1: two adjacent circuits whose hops total at most N clockwise, or at least N counterclockwise, use no link together in that
-- direction, whichever of the two begins where the other ends
pub lemma1 : (N : ℕ) (a b : Circuit) (l : ℕ) → OnRing N a → OnRing N b → adjacent a b ≡ true → 1 ≤ l → l ≤ N → (d : Direction)
    → Suits N d (hops N a + hops N b) → uses N d a l ≡ true → uses N d b l ≡ true → ⊥
lemma1 N a b l oa ob adj ll lh d k ua ub = go (or_true (eqb a.destination b.source) (eqb b.destination a.source) adj)
  where
    go : (eqb a.destination b.source ≡ true) ⊎ (eqb b.destination a.source ≡ true) → ⊥
    go (inl e) = clash N a b l oa ob (eqb-true a.destination b.source e) ll lh d k ua ub
    go (inr e) = clash N b a l ob oa (eqb-true b.destination a.source e) ll lh d (rw (add_comm (hops N b) (hops N a)) k) ub ua
