-- 02, E6: the links that a lightpath uses, counted, and the direction in which a circuit uses fewer. Assumes nothing.
use Prim.Native.Nat.{ℕ, suc, ◌+◌, ◌-◌, ◌/◌, ◌≤◌, ◌<◌}
use mathlib.Core.Path.{◌≡◌, refl, ◌∙◌}
use mathlib.Core.Logic.{◌⊎◌, inl, inr}
use mathlib.Core.Bool.{Bool, true, false}
use native.Mathlib.Decide.{dec_lt}
use native.Mathlib.Omega.{arith}
use lib.Dec.{ltb}
use borrow.Author.Tests.{leb-true, leb-false, ltb-true, ltb-false, lt-ltb, le-ltb}
use Rattle.basis.specs.Choice.{pick}
use Rattle.basis.specs.Count.{count_below}
use Rattle.basis.proofs.Below.{count_same, count_balance, count_none, count_every, count_less}
use Rattle.basis.proofs.Compare.{ltb_same}
use Rattle.lightpath.specs.Place.{Direction, clockwise, counterclockwise, other_way}
use Rattle.lightpath.specs.Circuit.{Circuit, uses, links_over, links_used, short_clockwise, shorter_way}
use Rattle.lightpath.specs.Ends.{start_of, stop_of}
use Rattle.lightpath.proofs.Links.{OnRing, Ahead, ahead_cases}
use Rattle.lightpath.proofs.Onward.{arc}

-- a direction is the one or the other
pub either_way : (d e : Direction) → (d ≡ e) ⊎ (d ≡ other_way e)
either_way clockwise clockwise = inl refl
either_way clockwise counterclockwise = inr refl
either_way counterclockwise clockwise = inr refl
either_way counterclockwise counterclockwise = inl refl

-- which of the two was picked says how the test went
picked_first : (b : Bool) → pick b clockwise counterclockwise ≡ clockwise → b ≡ true
picked_first true e = refl
picked_first false e = cc

picked_second : (b : Bool) → pick b clockwise counterclockwise ≡ counterclockwise → b ≡ false
picked_second true e = cc
picked_second false e = refl

module _ (N : ℕ) (c : Circuit) where
  -- what each direction says of the links, where it is the shorter way. A strict test is read too, so that a definition with one fails by
  -- the numbers for which this does not hold
  clockwise_fewer : shorter_way N c ≡ clockwise → links_used N clockwise c ≤ links_used N counterclockwise c
  clockwise_fewer e = omega (arith, picked_first (short_clockwise N c) e, leb-true, ltb-true)

  counterclockwise_fewer : shorter_way N c ≡ counterclockwise → links_used N counterclockwise c < links_used N clockwise c
  counterclockwise_fewer e = omega (arith, picked_second (short_clockwise N c) e, leb-false, ltb-false)

  -- 02, E6: the shorter way uses no more links than either direction
  pub shorter_fewest : (d : Direction) → links_used N (shorter_way N c) c ≤ links_used N d c
  shorter_fewest = go (shorter_way N c) refl
    where
      go : (w : Direction) → shorter_way N c ≡ w → (d : Direction) → links_used N w c ≤ links_used N d c
      go clockwise e clockwise = omega arith
      go clockwise e counterclockwise = clockwise_fewer e
      go counterclockwise e clockwise = omega (arith, counterclockwise_fewer e)
      go counterclockwise e counterclockwise = omega arith

  -- 02, E6: "clockwise when equal": where clockwise uses no more links, it is the shorter way
  pub clockwise_first : links_used N clockwise c ≤ links_used N (shorter_way N c) c → shorter_way N c ≡ clockwise
  clockwise_first = go (shorter_way N c) refl
    where
      go : (w : Direction) → shorter_way N c ≡ w → links_used N clockwise c ≤ links_used N w c → w ≡ clockwise
      go clockwise e h = refl
      go counterclockwise e h = absurd (omega (arith, counterclockwise_fewer e))

  -- 02, E6: the shorter way uses at most half of the links
  pub shorter_half : links_used N (shorter_way N c) c ≤ N / 2
  shorter_half = go (shorter_way N c) refl
    where
      go : (w : Direction) → shorter_way N c ≡ w → links_used N w c ≤ N / 2
      go clockwise e = omega (arith, clockwise_fewer e)
      go counterclockwise e = omega (arith, counterclockwise_fewer e)

-- the links below node s
links_below : (N s : ℕ) → 1 ≤ s → s ≤ N → count_below N (λ i. ltb (suc i) s) ≡ s - 1
links_below N s low high =
    count_same N (λ i. ltb (suc i) s) (λ i. ltb i (s - 1)) (λ i l. ltb_same (suc i) s i (s - 1) (λ h. omega arith) (λ h. omega arith))
    ∙ count_less N (s - 1) (omega arith)

-- 02, E6: the links that a lightpath is over, counted from 1 to N, are as many as its hops clockwise, and as many as the others
-- counterclockwise
pub links_counted : (N : ℕ) (c : Circuit) → OnRing N c → (d : Direction) → links_over N d c ≡ links_used N d c
links_counted N c o d = go d (ahead_cases N c.source c.destination o.source_low o.source_high o.dest_low o.dest_high)
  where
    -- all of them, and those below the start, are those below the stop, and all where that is the lower
    sum : (d : Direction) → links_over N d c + count_below N (λ i. ltb (suc i) (start_of d c))
        ≡ count_below N (λ i. ltb (suc i) (stop_of d c)) + count_below N (λ i. ltb (stop_of d c) (start_of d c))
    sum d =
        count_balance N (λ i. uses N d c (suc i)) (λ i. ltb (suc i) (start_of d c)) (λ i. ltb (suc i) (stop_of d c)) (λ i. ltb (stop_of d c) (start_of d c))
        (λ i l. arc N c o d (suc i) (omega arith) l)

    source : count_below N (λ i. ltb (suc i) c.source) ≡ c.source - 1
    source = links_below N c.source o.source_low o.source_high

    destination : count_below N (λ i. ltb (suc i) c.destination) ≡ c.destination - 1
    destination = links_below N c.destination o.dest_low o.dest_high

    all : (x y : ℕ) → x < y → count_below N (λ i. ltb x y) ≡ N
    all x y l = count_every N (λ i. ltb x y) (λ i k. lt-ltb x y l)

    none : (x y : ℕ) → y ≤ x → count_below N (λ i. ltb x y) ≡ 0
    none x y l = count_none N (λ i. ltb x y) (λ i k. le-ltb x y l)

    go : (d : Direction) → Ahead N c.source c.destination → links_over N d c ≡ links_used N d c
    go clockwise (inl a) = omega (arith, sum clockwise, source, destination, none c.destination c.source a.0, a.1, o)
    go clockwise (inr a) = omega (arith, sum clockwise, source, destination, all c.destination c.source a.0, a.1, o)
    go counterclockwise (inl a) = by (dec_lt c.source c.destination)
      where
        by : Dec (c.source < c.destination) → links_over N counterclockwise c ≡ links_used N counterclockwise c
        by (yes l) = omega (arith, sum counterclockwise, source, destination, all c.source c.destination l, a.1, o)
        by (no n) = absurd (o.apart (omega (arith, a.0)))
    go counterclockwise (inr a) =
        omega (arith, sum counterclockwise, source, destination, none c.source c.destination (omega arith), a.1, o)
