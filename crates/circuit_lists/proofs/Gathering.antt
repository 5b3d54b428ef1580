-- What the places of a table hold, gathered into an array by a loop over the places. Assumes nothing.
use Prim.Native.Nat.{ℕ, zero, suc, ◌+◌, ◌*◌, ◌≤◌, ◌<◌}
use mathlib.Core.Path.{◌≡◌, refl, sym, ap, ◌∙◌}
use mathlib.Core.List.{List, [], ◌∷◌, ◌++◌, append_assoc, append-nil}
use native.Mathlib.Nat.{le_of_suc-le-suc, not-suc-le-zero, suc-add, add-suc, add-zero, zero-add}
use native.Mathlib.Numerals.{add-one}
use native.Mathlib.Omega.{arith}
use lib.ListN.{length, set, take, replicate, length-set, length-replicate}
use lib.Seq.{take-suc-set, length-take-le}
use Rattle.limits.specs.Limits.{place_count, circuit_room}
use Rattle.lightpath.specs.declared.Circuit.{Circuit}
use Rattle.slots.specs.Slot.{held}
use Rattle.slots.specs.declared.Slot.{Slot}
use Rattle.slots.specs.declared.Slot.TheVariants.{Unlit as unlit, Alone as alone, Shared as shared}
use Rattle.channels.specs.Channels.{Channels, at, slots, circuits}
use Rattle.channels.specs.Nonsharing.{alone_from, nonsharing}
use Rattle.channels.specs.declared.Standing.{Standing}
use Rattle.circuit_lists.specs.Gathering.{Gathers}

-- what the numbers below n give, in order
abbrev pub below : {A : Type 0} → (ℕ → List A) → ℕ → List A
below f zero = []
below f (suc n) = below f n ++ f n

-- the first number gives its part in front
below_front : {A : Type 0} (f : ℕ → List A) (n : ℕ) → below f (suc n) ≡ f 0 ++ below (λ p. f (suc p)) n
below_front f zero = sym (append-nil (f 0))
below_front f (suc n) = rw (below_front f n) (append_assoc (f 0) _ _)

-- the first count elements of an array, which has room for so many, are what the numbers below p give
pub record Gathered {A : Type 0} (f : ℕ → List A) (room : ℕ) (array : List A) (count p : ℕ) : Type 0 where
  pub so_far : take count array ≡ below f p
  pub long : length array ≡ room

-- a store after the first count elements adds one to them
stored : {A : Type 0} (array xs : List A) (count : ℕ) (a : A) → take count array ≡ xs → count < length array
    → take (count + 1) (set array count a) ≡ xs ++ (a ∷ [])
stored array xs count a e l = simp (add-one, take-suc-set, e)

-- nothing is gathered at first
pub gather_start : {A : Type 0} (f : ℕ → List A) (room : ℕ) (x : A) → Gathered f room (replicate room x) 0 0
gather_start {A} f room x = record { so_far = refl; long = length-replicate {A = A} room x }

module _ {A : Type 0} {f : ℕ → List A} {room : ℕ} where
  -- the next number gives nothing, one element or two
  gather_none : {array : List A} {count p : ℕ} → Gathered f room array count p → f p ≡ [] → Gathered f room array count (p + 1)
  gather_none h e = record { so_far = rw (add-one, e, append-nil) h.so_far; long = h.long }

  gather_one : {array : List A} {count p : ℕ} {a : A} → Gathered f room array count p → f p ≡ a ∷ [] → count < room
      → Gathered f room (set array count a) (count + 1) (p + 1)
  gather_one {array} {count} {p} {a} h e l = record {
    so_far = rw (add-one p, e) (stored array (below f p) count a h.so_far (omega (arith, h.long)));
    long = length-set array count a ∙ h.long;
  }

  gather_two : {array : List A} {count p : ℕ} {a b : A} → Gathered f room array count p → f p ≡ a ∷ b ∷ [] → count + 1 < room
      → Gathered f room (set (set array count a) (count + 1) b) (count + 2) (p + 1)
  gather_two {array} {count} {p} {a} {b} h e l =
      let once = stored array (below f p) count a h.so_far (omega (arith, h.long)) in
      let n = length-set array count a ∙ h.long in
      let twice = stored (set array count a) (below f p ++ (a ∷ [])) (count + 1) b once (omega (arith, n)) in
      let m : count + 2 ≡ count + 1 + 1 = omega arith in
      record {
        so_far = rw (m, add-one p, e, twice) (append_assoc (below f p) _ _);
        long = length-set (set array count a) (count + 1) b ∙ n;
      }

  -- and at the end they are the list that all the numbers give
  gather_end : {array list : List A} {count most p : ℕ} → Gathered f room array count p → below f p ≡ list → count ≤ most → most ≤ room
      → Gathers most array count list
  gather_end {array} {list} {count} h e l k = record {
    are = h.so_far ∙ e;
    counted = rw (← e, ← h.so_far) (length-take-le count array (omega (arith, h.long)));
    fits = l;
  }

-- the circuits of place p
unfoldable pub circuits_at : Channels → ℕ → List Circuit
circuits_at t p = held (at t p)

-- the nonsharing circuit of place p, which holds s, if there is one
abbrev alone_as : ℕ → Slot → List Standing
alone_as p unlit = []
alone_as p (alone a) = record { place = p; circuit = a } ∷ []
alone_as p (shared a b) = []

unfoldable pub alone_at : Channels → ℕ → List Standing
alone_at t p = alone_as p (at t p)

-- all places give the circuits of the table
below_circuits : (t : Channels) (p : ℕ) → p ≡ length t → below (λ p. held (at t p)) p ≡ circuits t
below_circuits t p e = rw e (all t)
  where
    all : (t : Channels) → below (λ p. held (at t p)) (length t) ≡ circuits t
    all [] = refl
    all (ch ∷ t) = below_front (λ p. held (at (ch ∷ t) p)) (length t) ∙ ap (λ (cs : List Circuit). held ch.slot ++ cs) (all t)

-- the nonsharing circuits of a list of contents, the first content apart
alone_apart : (k : ℕ) (s : Slot) (u : List Slot) → alone_from k (s ∷ u) ≡ alone_as k s ++ alone_from (suc k) u
alone_apart k unlit u = refl
alone_apart k (alone a) u = refl
alone_apart k (shared a b) u = refl

-- so they are what the places give, which count from k
alone_from_lem : (m k : ℕ) (t : Channels) → m ≤ length t → below (λ p. alone_as (k + p) (at t p)) m ≡ alone_from k (take m (slots t))
alone_from_lem zero k t h = refl
alone_from_lem (suc m) k [] h = absurd (not-suc-le-zero h)
alone_from_lem (suc m) k (ch ∷ t) h =
    below_front (λ p. alone_as (k + p) (at (ch ∷ t) p)) m
    ∙ rw add-zero (ap (λ (l : List Standing). alone_as k ch.slot ++ l) (simp add-suc (simp suc-add at (alone_from_lem m (suc k) t (le_of_suc-le-suc h)))))
    ∙ sym (alone_apart k ch.slot (take m (slots t)))

-- the first contents are those of the first places
slots_take : (m : ℕ) (t : Channels) → take m (slots (take m t)) ≡ take m (slots t)
slots_take zero t = refl
slots_take (suc m) [] = refl
slots_take (suc m) (ch ∷ t) = ap (λ (u : List Slot). ch.slot ∷ u) (slots_take m t)

-- the first m places give the nonsharing circuits there
below_nonsharing : (t : Channels) (p m : ℕ) → p ≡ m → m ≤ length t
    → below (λ p. alone_as p (at (take m t) p)) p ≡ nonsharing m t
below_nonsharing t p m e h =
    rw e (simp zero-add at (alone_from_lem m 0 (take m t) (omega (arith, length-take-le m t h))) ∙ ap (alone_from 0) (slots_take m t))

-- a place with no circuit alone gives nothing
alone_nothing : (p : ℕ) (s : Slot) → ((a : Circuit) → s ≡ alone a → ⊥) → alone_as p s ≡ []
alone_nothing p unlit n = refl
alone_nothing p (alone a) n = absurd (n a refl)
alone_nothing p (shared a b) n = refl

-- The steps of the loop over all places, by what the next place holds.
module _ (t : Channels) (list : List Circuit) (count p : ℕ) (h : Gathered (circuits_at t) circuit_room list count p) where
  pub circuits_none : at t p ≡ unlit → Gathered (circuits_at t) circuit_room list count (p + 1)
  unfolding circuits_at
  circuits_none e = gather_none h (ap held e)

  pub circuits_one : (a : Circuit) → at t p ≡ alone a → count ≤ 2 * p → p < place_count
      → Gathered (circuits_at t) circuit_room (set list count a) (count + 1) (p + 1)
  unfolding circuits_at
  circuits_one a e l k = gather_one h (ap held e) (omega arith)

  pub circuits_two : (a b : Circuit) → at t p ≡ shared a b → count ≤ 2 * p → p < place_count
      → Gathered (circuits_at t) circuit_room (set (set list count a) (count + 1) b) (count + 2) (p + 1)
  unfolding circuits_at
  circuits_two a b e l k = gather_two h (ap held e) (omega arith)

  -- its end
  pub circuits_end : place_count ≤ p → p ≤ place_count → count ≤ 2 * p → length t ≡ place_count → Gathers circuit_room list count (circuits t)
  unfolding circuits_at
  circuits_end l k m n = gather_end h (below_circuits t p (omega arith)) (omega arith) (omega arith)

-- Those of the loop over the places below a limit.
module _ (t : Channels) (list : List Standing) (count p : ℕ) (h : Gathered (alone_at t) (place_count + 1) list count p) where
  pub alone_none : ((a : Circuit) → at t p ≡ alone a → ⊥) → Gathered (alone_at t) (place_count + 1) list count (p + 1)
  unfolding alone_at
  alone_none n = gather_none h (alone_nothing p (at t p) n)

  pub alone_one : (a : Circuit) → at t p ≡ alone a → count ≤ p → p < length t → length t ≤ place_count
      → Gathered (alone_at t) (place_count + 1) (set list count (record { place = p; circuit = a })) (count + 1) (p + 1)
  unfolding alone_at
  alone_one a e l k m = gather_one h (ap (alone_as p) e) (omega arith)

-- its end
pub alone_end : (t : Channels) (limit : ℕ) (list : List Standing) (count p : ℕ) → Gathered (alone_at (take limit t)) (place_count + 1) list count p
    → length (take limit t) ≤ p → p ≤ length (take limit t) → limit ≤ place_count → length t ≡ place_count → count ≤ p
    → Gathers place_count list count (nonsharing limit t)
unfolding alone_at
alone_end t limit list count p h l k most n m =
    let e : length (take limit t) ≡ limit = length-take-le limit t (omega arith) in
    gather_end h (below_nonsharing t p limit (omega arith) (omega arith)) (omega arith) (omega arith)

pub ruleset gather_circuits = (gather_start, circuits_none, circuits_one, circuits_two, circuits_end)

pub ruleset gather_alone = (gather_start, alone_none, alone_one, alone_end)
