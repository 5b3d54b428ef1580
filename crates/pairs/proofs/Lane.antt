-- x: how far the search among the candidates is; and that the first that stands in a direction is the nonsharing circuit at its lowest
-- place. Assumes nothing.
use Prim.Native.Nat.{ℕ, suc, ◌+◌, ◌≤◌, ◌<◌}
use mathlib.Core.Path.{◌≡◌, refl, ◌∙◌}
use mathlib.Core.Bool.{Bool, true, false, ◌&&◌}
use mathlib.Core.List.{List, [], ◌∷◌, ◌++◌}
use native.Mathlib.Nat.{add-zero, zero-add, add-suc, suc-add}
use native.Mathlib.Omega.{arith}
use Rattle.std.specs.List.{find}
use Rattle.std.specs.Prelude.{Option}
use Rattle.std.specs.Option.{unwrap_or}
use lib.ListN.{length, get_or, take}
use borrow.Author.Tests.{lt-ltb}
use Rattle.basis.specs.Search.{first_below, first_place}
use Rattle.limits.specs.Limits.{place_count}
use Rattle.lightpath.specs.Place.{direction_of, same_direction}
use Rattle.lightpath.specs.Circuit.{share_direction}
use Rattle.lightpath.specs.declared.Direction.{Direction}
use Rattle.lightpath.specs.declared.Circuit.{Circuit}
use Rattle.slots.specs.Slot.{is_alone, first_of}
use Rattle.slots.specs.declared.Slot.{Slot}
use Rattle.slots.specs.declared.Slot.TheVariants.{Unlit as unlit, Alone as alone, Shared as shared}
use Rattle.channels.specs.Channels.{Channels, at, slots}
use Rattle.channels.specs.Nonsharing.{alone_from, standing_at}
use Rattle.channels.specs.declared.Standing.{Standing}
use Rattle.channels.proofs.Nonsharing.{below_length, below_at}
use Rattle.circuit_lists.specs.Gathering.{Gathers}
use Rattle.circuit_lists.specs.declared.Candidates.{Candidates}
use Rattle.steps.specs.Steps.{newcomer, candidates, found_pair, lowest_alone}
use Rattle.pairs.specs.Pairs.{Pair, blank_standing, candidate_list, first_pair, stands_in, first_in, found_of, Searchable}
use Rattle.pairs.proofs.Seek.{pair_of_lem}

-- the first that passes a test, or another, is that at its position
first_at : {A : Type 0} (f : A → Bool) (d : A) (xs : List A) → unwrap_or (find f xs) d ≡ get_or xs (first_place f xs) d
first_at f d [] = refl
first_at f d (x ∷ xs) = go (f x) refl (first_at f d xs)
  where
    go : (o : Bool) → f x ≡ o → unwrap_or (find f xs) d ≡ get_or xs (first_place f xs) d → unwrap_or (find f (x ∷ xs)) d ≡ get_or (x ∷ xs) (first_place f (x ∷ xs)) d
    go true e h = rw e
    go false e h = rw e h

-- the circuit of content k, of contents whose places count from p
abbrev there : ℕ → List Slot → ℕ → Standing
there p u k = record { place = p + k; circuit = first_of (get_or u k unlit) }

-- a first content that fails the test is passed
later : (g : ℕ → Bool) (p : ℕ) (x : Slot) (u : List Slot) (s : Standing) → g 0 ≡ false
    → s ≡ there (suc p) u (first_below (length u) (λ i. g (suc i))) → s ≡ there p (x ∷ u) (first_below (suc (length u)) g)
later g p x u s e h = h ∙ rw (e, suc-add, add-suc)

-- the first content that passes is the first circuit listed that stands in the direction
module _ (d : Direction) (rest : List Standing) where
  abbrev Tests : (ℕ → Bool) → ℕ → List Slot → Type 0
  Tests g p u = (i : ℕ) → i < length u → g i ≡ (is_alone (get_or u i unlit) && same_direction (direction_of (p + i)) d)

  -- the test goes on from the next
  tests_next : (g : ℕ → Bool) (p : ℕ) (x : Slot) (u : List Slot) → Tests g p (x ∷ u) → Tests (λ i. g (suc i)) (suc p) u
  tests_next g p x u a i l = rw suc-add (rw add-suc at (a (suc i) (omega arith)))

  first_there : (g : ℕ → Bool) (p : ℕ) (u : List Slot) → p + length u ≤ place_count → Tests g p u → first_below (length u) g < length u
      → first_in d (alone_from p u ++ rest) ≡ there p u (first_below (length u) g)
  first_there g p [] l a h = absurd (omega arith)
  first_there g p (unlit ∷ u) l a h =
      let e : g 0 ≡ false = a 0 (omega arith) in
      later g p unlit u _ e (first_there (λ i. g (suc i)) (suc p) u (omega arith) (tests_next g p unlit u a) (omega (arith, rw e at h)))
  first_there g p (shared x y ∷ u) l a h =
      let e : g 0 ≡ false = a 0 (omega arith) in
      later g p (shared x y) u _ e (first_there (λ i. g (suc i)) (suc p) u (omega arith) (tests_next g p (shared x y) u a) (omega (arith, rw e at h)))
  first_there g p (alone x ∷ u) l a h =
      go (same_direction (direction_of p) d) refl (λ k. first_there (λ i. g (suc i)) (suc p) u (omega arith) (tests_next g p (alone x) u a) k)
    where
      is : g 0 ≡ same_direction (direction_of p) d
      is = rw add-zero at (a 0 (omega arith))

      go : (o : Bool) → same_direction (direction_of p) d ≡ o
          → (first_below (length u) (λ i. g (suc i)) < length u
          → first_in d (alone_from (suc p) u ++ rest) ≡ there (suc p) u (first_below (length u) (λ i. g (suc i))))
          → first_in d (alone_from p (alone x ∷ u) ++ rest) ≡ there p (alone x ∷ u) (first_below (suc (length u)) g)
      go true e next = rw (lt-ltb p place_count (omega arith), is, e, add-zero)
      go false e next =
          let f : g 0 ≡ false = is ∙ e in
          rw (lt-ltb p place_count (omega arith), e) (later g p (alone x) u _ f (next (omega (arith, rw f at h))))

-- so x is found
pub x_found : (m : ℕ) (t : Channels) (c : Circuit) (d : Direction) → m ≤ length t → m ≤ place_count → lowest_alone m t d < m
    → first_in d (candidates m t c) ≡ standing_at t (lowest_alone m t d)
x_found m t c d within low h =
    let long = below_length m t within in
    (rw long at (first_there d (newcomer c ∷ []) g 0 (take m (slots t)) (omega arith) tests (rw long h)))
    ∙ rw (zero-add, below_at m t within (lowest_alone m t d) h)
  where
    g : ℕ → Bool
    g p = is_alone (at t p) && same_direction (direction_of p) d

    tests : (i : ℕ) → i < length (take m (slots t)) → g i ≡ (is_alone (get_or (take m (slots t)) i unlit) && same_direction (direction_of (0 + i)) d)
    tests i l = rw (below_at m t within i (omega (arith, below_length m t within)), zero-add)

-- what the search found, from the candidates that it gathered
module _ (N m : ℕ) (t : Channels) (c : Circuit) (can : Searchable N m t c) (all : Candidates) (are : Gathers 129 all.list all.count (candidates m t c)) where
  -- the first, and the first that stands in the direction in which it can share
  pub found_all : (p : Pair) (d : Direction) (o : Option Standing) (x : Standing) → length t ≡ place_count → p ≡ first_pair (candidate_list all)
      → d ≡ share_direction N p.first.circuit p.second.circuit → o ≡ find (stands_in d) (candidate_list all) → x ≡ unwrap_or o blank_standing → record { pair = p; x = x } ≡ found_of N m t c
  found_all p d o x long e f g h =
      let pair = pair_of_lem m t c (candidate_list all) p are.are can.pair e in
      let way : d ≡ share_direction N (found_pair m t c).0.circuit (found_pair m t c).1.circuit = rw pair at f in
      rw (pair, h, g, first_at (stands_in d) blank_standing (candidate_list all), are.are, x_found m t c d (omega (arith, long, can.low)) can.low (can.lane d), way)
