-- What the search for the next round finds, from what its parts gave, as they stand in the record of a need, so that `search (rules, finding)`
-- finds these laws. Assumes nothing.
use Prim.Native.Nat.{ℕ, suc, ◌≤◌}
use mathlib.Core.Path.{◌≡◌, refl, sym, ◌∙◌}
use mathlib.Core.Bool.{Bool, true, false}
use mathlib.Core.List.{List, [], ◌∷◌}
use native.Mathlib.Omega.{arith}
use lib.Dec.{ltb, leb-suc-suc}
use lib.ListN.{length, get_or}
use borrow.Author.Tests.{lt-ltb}
use Rattle.std.specs.Prelude.{Option, Some, is_some}
use Rattle.basis.specs.Choice.{pick}
use Rattle.basis.specs.Search.{first_place, pairs_of}
use Rattle.basis.proofs.Arrays.{array_length}
use Rattle.limits.specs.Limits.{place_count}
use Rattle.lightpath.specs.declared.Direction.TheVariants.{Clockwise as clockwise, Counterclockwise as counterclockwise}
use Rattle.slots.specs.Slot.{is_unlit}
use Rattle.channels.specs.Channels.{Channels}
use Rattle.channels.specs.Nonsharing.{nonsharing, standing_at}
use Rattle.channels.specs.declared.Standing.{Standing}
use Rattle.steps.specs.Steps.{lowest_in}
use Rattle.tidying.specs.Round.{joinable}
use Rattle.rounds.specs.Room.{Room, room_of, gains}
use Rattle.rounds.specs.Search.{Hit, joinable_in, first_hit, Skipping}
use Rattle.rounds.specs.Next.{PassedBy, Finds}
use Rattle.rounds.proofs.Passing.{joinable_is, skipping, passed_hit}

-- the room, by its two directions
pub room_by : (m : ℕ) (t : Channels) (u v : ℕ) → u ≡ lowest_in is_unlit m t clockwise → v ≡ lowest_in is_unlit m t counterclockwise
    → record { clockwise = u; counterclockwise = v } ≡ room_of m t
room_by m t u v e f = rw (e, f)

-- whether there is a hit
hit_found : (f : Standing × Standing → Bool) (l : List (Standing × Standing)) → is_some (first_hit f l) ≡ ltb (first_place f l) (length l)
hit_found f [] = refl
hit_found f (x ∷ l) = go (f x) (hit_found f l)
  where
    go : (o : Bool) → is_some (first_hit f l) ≡ ltb (first_place f l) (length l)
        → is_some (pick o (Some (record { first = x.0; second = x.1 })) (first_hit f l)) ≡ ltb (pick o 0 (suc (first_place f l))) (suc (length l))
    go true rest = sym (lt-ltb 0 (suc (length l)) (omega arith))
    go false rest = rest ∙ sym (leb-suc-suc (suc (first_place f l)) (length l))

-- and which pair it is
hit_pair : (f : Standing × Standing → Bool) (d : Standing × Standing) (l : List (Standing × Standing)) (hit : Hit) → first_hit f l ≡ Some hit
    → (hit.first ≡ (get_or l (first_place f l) d).0) × (hit.second ≡ (get_or l (first_place f l) d).1)
hit_pair f d [] hit h = cc
hit_pair f d (x ∷ l) hit h = go (f x) refl h (hit_pair f d l hit)
  where
    go : (o : Bool) → f x ≡ o → pick o (Some (record { first = x.0; second = x.1 })) (first_hit f l) ≡ Some hit
        → (first_hit f l ≡ Some hit → (hit.first ≡ (get_or l (first_place f l) d).0) × (hit.second ≡ (get_or l (first_place f l) d).1))
        → (hit.first ≡ (get_or (x ∷ l) (first_place f (x ∷ l)) d).0) × (hit.second ≡ (get_or (x ∷ l) (first_place f (x ∷ l)) d).1)
    go true e h rest = let is : hit ≡ record { first = x.0; second = x.1 } = cc in rw (e, is) (refl, refl)
    go false e h rest = rw e (rest h)

module _ (N m : ℕ) (t : Channels) (room : Room) (e : room ≡ room_of m t) (long : length t ≡ place_count) (low : m ≤ place_count) where
  -- the rows that are skipped have no pair that can be joined
  pub found_skipping : (before : Room) (from start : ℕ) → PassedBy N m t before from → start ≡ pick (gains m before room) 0 from
      → Skipping (joinable_in N m room) start (pairs_of (nonsharing m t))
  found_skipping before from start h f = rw e (skipping N m t before from start (omega arith) h (rw e at f))

  -- what is found is the next round's pair
  pub found_next : (hit : Option Hit) → hit ≡ first_hit (joinable_in N m room) (pairs_of (nonsharing m t)) → Finds N m t (record { hit = hit; room = room })
  found_next hit h =
      rw is (record {
        room = e;
        found = hit_found (joinable N m t) pairs;
        first = λ x o. (hit_pair (joinable N m t) (standing_at t 0, standing_at t 0) pairs x o).0;
        second = λ x o. (hit_pair (joinable N m t) (standing_at t 0, standing_at t 0) pairs x o).1;
        passed = λ x o. passed_hit N m t room (omega arith) x (sym h ∙ is ∙ o);
      })
    where
      pairs : List (Standing × Standing)
      pairs = pairs_of (nonsharing m t)

      is : hit ≡ first_hit (joinable N m t) pairs
      is = h ∙ rw e (λ i. first_hit (λ x. joinable_is N m t x i) pairs)

pub ruleset finding = (array_length, room_by, found_skipping, found_next)
