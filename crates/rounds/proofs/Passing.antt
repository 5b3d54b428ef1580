-- Which pairs are passed by for good: those before the row of the pair that a round joins, as long as no direction gets an unlit place that
-- had none. Assumes nothing.
use Prim.Native.Nat.{ℕ, ◌≤◌, ◌<◌}
use mathlib.Core.Path.{◌≡◌, refl, sym, ap, ◌∙◌}
use mathlib.Core.Logic.{◌⊎◌, inl, inr}
use mathlib.Core.Bool.{Bool, true, false, ◌&&◌, ◌||◌}
use mathlib.Core.List.{List, [], ◌∷◌, ◌++◌}
use native.Mathlib.Omega.{arith}
use lib.Dec.{leb, ltb}
use lib.ListN.{length}
use borrow.Author.Tests.{le-leb, ltb-false}
use Rattle.std.specs.Prelude.{Option, Some, None}
use Rattle.basis.specs.Choice.{pick}
use Rattle.basis.specs.Count.{All}
use Rattle.basis.specs.Search.{pairs_with, pairs_of}
use Rattle.basis.proofs.Bools.{or_false, all_join, all_map}
use Rattle.basis.proofs.Pairs.{Ordered, pairs_all}
use Rattle.limits.specs.Limits.{place_count}
use Rattle.lightpath.specs.Circuit.{adjacent, share_direction}
use Rattle.lightpath.specs.declared.Direction.{Direction}
use Rattle.lightpath.specs.declared.Direction.TheVariants.{Clockwise as clockwise, Counterclockwise as counterclockwise}
use Rattle.slots.specs.Slot.{is_unlit}
use Rattle.channels.specs.Channels.{Channels}
use Rattle.channels.specs.Nonsharing.{nonsharing}
use Rattle.channels.specs.declared.Standing.{Standing}
use Rattle.channels.proofs.Nonsharing.{Stands, Lower, nonsharing_ordered, stands_pairs}
use Rattle.steps.specs.Steps.{stands_right, lowest_in}
use Rattle.tidying.specs.Round.{joinable}
use Rattle.tidying.proofs.Settled.{Settles}
use Rattle.tidying.proofs.Choice.{Pair, pairs_stand}
use Rattle.rounds.specs.Room.{Room, room_of, lowest_of, gains}
use Rattle.rounds.specs.Search.{Hit, joinable_in, first_hit, Skipping}
use Rattle.rounds.specs.Next.{Lone, PassedBy}
use Rattle.rounds.proofs.Seek.{hit_misses}

-- the room of some places is the lowest unlit place of each direction
pub room_is : (m : ℕ) (t : Channels) (d : Direction) → lowest_of (room_of m t) d ≡ lowest_in is_unlit m t d
room_is m t clockwise = refl
room_is m t counterclockwise = refl

-- so a pair can be joined by it where it can be joined
pub joinable_is : (N m : ℕ) (t : Channels) (pair : Standing × Standing) → joinable_in N m (room_of m t) pair ≡ joinable N m t pair
joinable_is N m t pair =
    ap (λ u. stands_right N pair.0 pair.1 pair.0 || stands_right N pair.0 pair.1 pair.1 || (adjacent pair.0.circuit pair.1.circuit && ltb u m))
    (room_is m t (share_direction N pair.0.circuit pair.1.circuit))

-- where no direction gains an unlit place, one that has one had one
no_gain : (m : ℕ) (r r' : Room) (d : Direction) → gains m r r' ≡ false → ltb (lowest_of r d) m ≡ false → ltb (lowest_of r' d) m ≡ false
no_gain m r r' d e f = go d (or_false _ _ e) f
  where
    one : (u v : ℕ) → (leb m u && ltb v m) ≡ false → ltb u m ≡ false → ltb v m ≡ false
    one u v e f = rw (le-leb m u (ltb-false u m f)) at e

    go : (d : Direction) → ((leb m r.clockwise && ltb r'.clockwise m) ≡ false) × ((leb m r.counterclockwise && ltb r'.counterclockwise m) ≡ false)
        → ltb (lowest_of r d) m ≡ false → ltb (lowest_of r' d) m ≡ false
    go clockwise h f = one r.clockwise r'.clockwise h.0 f
    go counterclockwise h f = one r.counterclockwise r'.counterclockwise h.1 f

-- so a pair that could not be joined cannot be
still_not : (N m : ℕ) (r r' : Room) (pair : Standing × Standing) → gains m r r' ≡ false → joinable_in N m r pair ≡ false → joinable_in N m r' pair ≡ false
still_not N m r r' pair e f =
    let d = share_direction N pair.0.circuit pair.1.circuit in
    go (stands_right N pair.0 pair.1 pair.0) (stands_right N pair.0 pair.1 pair.1) (adjacent pair.0.circuit pair.1.circuit)
    (ltb (lowest_of r d) m) (ltb (lowest_of r' d) m) f (no_gain m r r' d e)
  where
    go : (a b c x y : Bool) → (a || b || (c && x)) ≡ false → (x ≡ false → y ≡ false) → (a || b || (c && y)) ≡ false
    go true b c x y h k = cc
    go false true c x y h k = cc
    go false false true x y h k = k h
    go false false false x y h k = refl

-- the row of an element has no hit, or the first hit of all is in it
row_hit : (f : Standing × Standing → Bool) (a : Standing) (l : List Standing) (more : List (Standing × Standing))
    → (All (λ x. f x ≡ false) (pairs_with a l)) ⊎ ((hit : Hit) → first_hit f (pairs_with a l ++ more) ≡ Some hit → hit.first ≡ a)
row_hit f a [] more = inl tt
row_hit f a (b ∷ l) more = go (f (a, b)) refl (row_hit f a l more)
  where
    Here : List Standing → Type 0
    Here l = (hit : Hit) → first_hit f (pairs_with a l ++ more) ≡ Some hit → hit.first ≡ a

    first : f (a, b) ≡ true → Here (b ∷ l)
    first e hit h = let k : Some (record { first = a; second = b }) ≡ Some hit = rw e at h in cc

    go : (o : Bool) → f (a, b) ≡ o → (All (λ x. f x ≡ false) (pairs_with a l)) ⊎ Here l → (All (λ x. f x ≡ false) (pairs_with a (b ∷ l))) ⊎ Here (b ∷ l)
    go true e rest = inr (first e)
    go false e (inl h) = inl (e, h)
    go false e (inr h) = inr (λ hit k. h hit (rw e at k))

-- no pair passes whose first member stands below that of the first hit
pub rows_before : (f : Standing × Standing → Bool) (l : List Standing) (hit : Hit) → Ordered Lower l → first_hit f (pairs_of l) ≡ Some hit
    → Skipping f hit.first.place (pairs_of l)
rows_before f [] hit o k = tt
rows_before f (a ∷ l) hit o k = go (row_hit f a l (pairs_of l)) (rows_before f l hit o.1)
  where
    same : (xs : List Standing) → All (λ pair. pair.0 ≡ a) (pairs_with a xs)
    same [] = tt
    same (x ∷ xs) = (refl, same xs)

    lower : All (λ pair. a.place < pair.0.place) (pairs_of l)
    lower = all_map _ _ (λ pair h. h.0) (pairs_of l) (pairs_all (Lower a) Lower l o.0 o.1)

    go : (All (λ x. f x ≡ false) (pairs_with a l)) ⊎ ((hit : Hit) → first_hit f (pairs_with a l ++ pairs_of l) ≡ Some hit → hit.first ≡ a)
        → (first_hit f (pairs_of l) ≡ Some hit → Skipping f hit.first.place (pairs_of l)) → Skipping f hit.first.place (pairs_with a l ++ pairs_of l)
    go (inl h) rest =
        all_join _ (pairs_with a l) (pairs_of l) (all_map _ _ (λ x e k. e) (pairs_with a l) h) (rest (sym (hit_misses f (pairs_with a l) (pairs_of l) h) ∙ k))
    go (inr h) rest =
        let is : hit.first ≡ a = h hit k in
        rw is (all_join _ (pairs_with a l) (pairs_of l) (all_map _ _ (λ x e k. absurd (omega (arith, ap (λ s. s.place) e))) (pairs_with a l) (same l))
        (all_map _ _ (λ x e k. absurd (omega arith)) (pairs_of l) lower))

-- the row of a pair that was found, the place of its first member; 0 where there is none
abbrev pub row_of : Option Hit → ℕ
row_of None = 0
row_of (Some hit) = hit.first.place

module _ (N m : ℕ) (t : Channels) where
  -- one that is alone stands
  stands_lone : (s : Standing) → Lone m t s → Stands m t s
  stands_lone s h = record { low = h.0; there = h.1 }

  -- Law: unless a direction has got an unlit place that had none, the search of a round may start at the row of the last pair: the rows
  -- skipped have no pair that can be joined
  pub skipping : (before : Room) (from start : ℕ) → m ≤ length t → PassedBy N m t before from → start ≡ pick (gains m before (room_of m t)) 0 from
      → Skipping (joinable_in N m (room_of m t)) start (pairs_of (nonsharing m t))
  skipping before from start within h e = go (gains m before (room_of m t)) refl
    where
      go : (o : Bool) → gains m before (room_of m t) ≡ o → Skipping (joinable_in N m (room_of m t)) start (pairs_of (nonsharing m t))
      go true g = let z : start ≡ 0 = e ∙ rw g in all_map (Pair m t) _ (λ pair k l. absurd (omega arith)) (pairs_of (nonsharing m t)) (pairs_stand m t within)
      go false g =
          let z : start ≡ from = e ∙ rw g in
          all_map (Pair m t) _
          (λ pair k l. still_not N m before (room_of m t) pair g
          (h.none pair.0 pair.1 (k.0.low, k.0.there) (k.1.low, k.1.there) k.2 (omega arith)))
          (pairs_of (nonsharing m t)) (pairs_stand m t within)

  -- no row before that of a pair found first has a pair that can be joined
  pub passed_hit : (room : Room) → m ≤ length t → (hit : Hit) → first_hit (joinable_in N m room) (pairs_of (nonsharing m t)) ≡ Some hit
      → PassedBy N m t room hit.first.place
  passed_hit room within hit is = record {
    none =
        λ a b la lb l k. stands_pairs m t within _ (rows_before (joinable_in N m room) (nonsharing m t) hit (nonsharing_ordered m t within) is) a b
        (stands_lone a la) (stands_lone b lb) l k;
  }

  -- before the first round nothing is passed by
  pub passed_none : (room : Room) → PassedBy N m t room 0
  passed_none room = record { none = λ a b la lb l k. absurd (omega arith) }

  -- Law: no row before that of the pair that a round joins has a pair that can be joined
  pub passed_by : (room : Room) → m ≤ length t → PassedBy N m t room (row_of (first_hit (joinable_in N m room) (pairs_of (nonsharing m t))))
  passed_by room within = go (first_hit (joinable_in N m room) (pairs_of (nonsharing m t))) refl
    where
      go : (o : Option Hit) → first_hit (joinable_in N m room) (pairs_of (nonsharing m t)) ≡ o → PassedBy N m t room (row_of o)
      go None e = passed_none room
      go (Some hit) e = passed_hit room within hit e

-- Law: a row that has none has none after a round
pub passed_on : (N m : ℕ) (t t' : Channels) (room : Room) (from : ℕ) → m ≤ place_count → Settles t t' → PassedBy N m t room from → PassedBy N m t' room from
passed_on N m t t' room from low s h = record {
  none = λ a b la lb l k. h.none a b (was a la) (was b lb) l k;
}
  where
    was : (x : Standing) → Lone m t' x → Lone m t x
    was x h = (h.0, s.rest x.place (omega arith) (rw h.1 refl) ∙ h.1)
