-- A lightpath from link to link: it is over the links from one of its ends clockwise on to the other. Assumes nothing.
use Prim.Native.Nat.{ℕ, ◌+◌, ◌≤◌, ◌<◌}
use mathlib.Core.Path.{◌≡◌, sym, ◌∙◌}
use mathlib.Core.Logic.{◌⊎◌, inl, inr}
use native.Mathlib.Decide.{dec_lt, ℕ_discrete}
use native.Mathlib.Omega.{arith}
use lib.Dec.{eqb, ltb}
use borrow.Author.Tests.{lt-ltb, le-ltb}
use Rattle.basis.specs.Choice.{bit}
use Rattle.basis.proofs.Bools.{bit_ne}
use Rattle.basis.proofs.Weigh.{bit_most}
use Rattle.basis.proofs.Compare.{ltb_same, bit_not, bit_apart, bit_above}
use Rattle.lightpath.specs.Place.{Direction, clockwise, counterclockwise}
use Rattle.lightpath.specs.Circuit.{Circuit, next, ahead, hops, uses}
use Rattle.lightpath.specs.Ends.{start_of, stop_of}
use Rattle.lightpath.proofs.Links.{OnRing, Ahead, ahead_cases}

-- the next link is l + 1, and link 1 after link N
abbrev pub Next : ℕ → ℕ → Type 0
Next N l = ((l < N) × (next N l ≡ l + 1)) ⊎ ((l ≡ N) × (next N l ≡ 1))

pub next_cases : (N l : ℕ) → l ≤ N → Next N l
next_cases N l h = go (dec_lt l N)
  where
    go : Dec (l < N) → Next N l
    go (yes i) = inl (i, rw (lt-ltb l N i))
    go (no n) = let e : l ≡ N = omega arith in inr (e, rw (e, le-ltb N N (omega arith)))

module _ (N : ℕ) (c : Circuit) (o : OnRing N c) where
  -- clockwise, whether link l is used, by where it stands to the source and the destination
  arc_clockwise : (l : ℕ) → 1 ≤ l → l ≤ N
      → bit (uses N clockwise c l) + bit (ltb l c.source) ≡ bit (ltb l c.destination) + bit (ltb c.destination c.source)
  arc_clockwise l low high =
      go (ahead_cases N c.source l o.source_low o.source_high low high)
      (ahead_cases N c.source c.destination o.source_low o.source_high o.dest_low o.dest_high)
    where
      go : Ahead N c.source l → Ahead N c.source c.destination
          → bit (uses N clockwise c l) + bit (ltb l c.source) ≡ bit (ltb l c.destination) + bit (ltb c.destination c.source)
      go (inl a) (inl b) =
          rw (
            ltb_same (ahead N c.source l) (hops N c) l c.destination (λ h. omega arith) (λ h. omega arith),
            le-ltb l c.source a.0,
            le-ltb c.destination c.source b.0,
          )
      go (inl a) (inr b) =
          rw (
            lt-ltb (ahead N c.source l) (hops N c) (omega (arith, o)),
            le-ltb l c.source a.0,
            le-ltb l c.destination (omega arith),
            lt-ltb c.destination c.source b.0,
          )
      go (inr a) (inl b) =
          rw (
            le-ltb (ahead N c.source l) (hops N c) (omega (arith, o)),
            lt-ltb l c.source a.0,
            lt-ltb l c.destination (omega arith),
            le-ltb c.destination c.source b.0,
          )
      go (inr a) (inr b) =
          rw (
            ltb_same (ahead N c.source l) (hops N c) l c.destination (λ h. omega arith) (λ h. omega (arith, o)),
            lt-ltb l c.source a.0,
            lt-ltb c.destination c.source b.0,
          )

  -- Law: a lightpath is over the links clockwise from one of its ends, its start, to the other, its stop
  pub arc : (d : Direction) (l : ℕ) → 1 ≤ l → l ≤ N
      → bit (uses N d c l) + bit (ltb l (start_of d c)) ≡ bit (ltb l (stop_of d c)) + bit (ltb (stop_of d c) (start_of d c))
  arc clockwise l low high = arc_clockwise l low high
  arc counterclockwise l low high =
      omega (arith, arc_clockwise l low high, bit_not (uses N clockwise c l), bit_apart c.source c.destination o.apart)

  -- both ends are on the ring, and different
  ends_on : (d : Direction) → (1 ≤ start_of d c) × (start_of d c ≤ N) × (1 ≤ stop_of d c) × (stop_of d c ≤ N)
  ends_on clockwise = (o.source_low, o.source_high, o.dest_low, o.dest_high)
  ends_on counterclockwise = (o.dest_low, o.dest_high, o.source_low, o.source_high)

  ends_apart : (d : Direction) → start_of d c ≡ stop_of d c → ⊥
  ends_apart clockwise e = o.apart e
  ends_apart counterclockwise e = o.apart (sym e)

  -- Law: a lightpath is over link N exactly where it stops at a lower node than it starts from
  pub over_last_lem : (d : Direction) → bit (uses N d c N) ≡ bit (ltb (stop_of d c) (start_of d c))
  over_last_lem d =
      let e = ends_on d in
      let a = rw (le-ltb N (start_of d c) e.1, le-ltb N (stop_of d c) e.3) at (arc d N (omega arith) (omega arith)) in
      omega arith

  -- 02, E4: from a link to the next a lightpath comes on where it starts at the node between, goes off where it stops there, and is otherwise
  -- over both links or neither
  pub onward : (d : Direction) (l : ℕ) → 1 ≤ l → l ≤ N
      → bit (uses N d c (next N l)) + bit (eqb (stop_of d c) (next N l)) ≡ bit (uses N d c l) + bit (eqb (start_of d c) (next N l))
  onward d l low high = go (next_cases N l high)
    where
      first : (x : ℕ) → 1 ≤ x → bit (ltb 1 x) + bit (eqb x 1) ≡ 1
      first x h = let a = rw (lt-ltb 0 x h) at (bit_above 0 x) in omega arith

      go : Next N l → bit (uses N d c (next N l)) + bit (eqb (stop_of d c) (next N l)) ≡ bit (uses N d c l) + bit (eqb (start_of d c) (next N l))
      go (inl k) =
          rw k.1
          (omega (arith, arc d l low high, arc d (l + 1) (omega arith) (omega arith), bit_above l (start_of d c), bit_above l (stop_of d c)))
      go (inr k) =
          rw (k.1, k.0)
          (omega (arith, over_last_lem d, arc d 1 (omega arith) (omega arith), first (start_of d c) (ends_on d).0, first (stop_of d c) (ends_on d).2))

  -- a lightpath that starts at the node between was not over the link before
  pub onward_most : (d : Direction) (l : ℕ) → 1 ≤ l → l ≤ N → bit (uses N d c l) + bit (eqb (start_of d c) (next N l)) ≤ 1
  onward_most d l low high = go (ℕ_discrete (start_of d c) (next N l)) (ℕ_discrete (stop_of d c) (next N l))
    where
      go : Dec (start_of d c ≡ next N l) → Dec (stop_of d c ≡ next N l) → bit (uses N d c l) + bit (eqb (start_of d c) (next N l)) ≤ 1
      go (yes e) (yes f) = absurd (ends_apart d (e ∙ sym f))
      go (yes e) (no f) = omega (arith, onward d l low high, bit_ne (stop_of d c) (next N l) f, bit_most (uses N d c (next N l)))
      go (no e) f = omega (arith, bit_ne (start_of d c) (next N l) e, bit_most (uses N d c l))
