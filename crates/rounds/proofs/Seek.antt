-- The search for the first pair that can be joined: how far it is, and each step of its loops. Each law takes a callee's answer and the
-- branch's test as they stand in the record of a need, so that `search (rules, seek)` finds them. Assumes nothing.
use Prim.Native.Nat.{ℕ, zero, suc, ◌+◌, ◌≤◌, ◌<◌}
use mathlib.Core.Path.{◌≡◌, refl, sym, ap, subst, ◌∙◌}
use mathlib.Core.Bool.{Bool, true, false, true≢false}
use mathlib.Core.List.{List, [], ◌∷◌, ◌++◌}
use native.Mathlib.Decide.{dec_lt}
use native.Mathlib.Numerals.{add-one}
use native.Mathlib.Omega.{arith}
use lib.ListN.{length, take, drop, drop_of_length-le}
use lib.Seq.{drop-cons}
use Rattle.std.specs.Prelude.{Some, None}
use Rattle.basis.specs.Count.{All}
use Rattle.basis.specs.Search.{pairs_with, pairs_of}
use Rattle.basis.proofs.Bools.{all_left, all_right}
use Rattle.basis.proofs.Arrays.{array_length}
use Rattle.limits.specs.Limits.{place_count}
use Rattle.lightpath.specs.declared.Circuit.{Circuit}
use Rattle.slots.specs.Slot.{is_alone, first_of}
use Rattle.slots.specs.declared.Slot.{Slot}
use Rattle.slots.specs.declared.Slot.TheVariants.{Unlit as unlit, Alone as alone, Shared as shared}
use Rattle.slots.proofs.Contents.{alone_first}
use Rattle.channels.specs.Channels.{Channels, at, slots}
use Rattle.channels.specs.Nonsharing.{alone_from, nonsharing}
use Rattle.channels.specs.declared.Standing.{Standing}
use Rattle.channels.proofs.Nonsharing.{below_length, below_at}
use Rattle.rounds.specs.Search.{first_hit, Skipping}

-- what is no circuit alone
pub not_alone : (s : Slot) → ((x : Circuit) → s ≡ alone x → ⊥) → is_alone s ≡ false
not_alone unlit h = refl
not_alone (alone x) h = absurd (h x refl)
not_alone (shared x y) h = refl

-- a pair that fails is passed over
hit_miss : (f : Standing × Standing → Bool) (x : Standing × Standing) (rest : List (Standing × Standing)) → f x ≡ false
    → first_hit f (x ∷ rest) ≡ first_hit f rest
hit_miss f x rest e = rw e

-- and so are several
pub hit_misses : (f : Standing × Standing → Bool) (xs rest : List (Standing × Standing)) → All (λ x. f x ≡ false) xs
    → first_hit f (xs ++ rest) ≡ first_hit f rest
hit_misses f [] rest h = refl
hit_misses f (x ∷ xs) rest h = hit_miss f x (xs ++ rest) h.0 ∙ hit_misses f xs rest h.1

-- the pairs of one element that stands below a place are such that none passes
row_fails : (f : Standing × Standing → Bool) (from : ℕ) (a : Standing) (l : List Standing) → a.place < from → Skipping f from (pairs_with a l)
    → All (λ x. f x ≡ false) (pairs_with a l)
row_fails f from a [] h s = tt
row_fails f from a (b ∷ l) h s = (s.0 h, row_fails f from a l h s.1)

-- the nonsharing circuits below m that stand at place p or above
abbrev standing_from : ℕ → Channels → ℕ → List Standing
standing_from m t p = alone_from p (drop p (take m (slots t)))

-- what stands at place p, with its place
abbrev there : Channels → ℕ → Standing
there t p = record { place = p; circuit = first_of (at t p) }

module _ (m : ℕ) (t : Channels) (long : m ≤ length t) (p : ℕ) where
  -- those from p on are what stands at p and those after it
  next_place : p < m → standing_from m t p ≡ alone_from p (at t p ∷ drop (suc p) (take m (slots t)))
  next_place h =
      let e : drop p (take m (slots t)) ≡ at t p ∷ drop (suc p) (take m (slots t)) =
      drop-cons (take m (slots t)) p unlit (rw (below_length m t long) h) ∙ ap (λ s. s ∷ drop (suc p) (take m (slots t))) (below_at m t long p h) in
      ap (alone_from p) e

  pub next_alone : p < m → is_alone (at t p) ≡ true → standing_from m t p ≡ there t p ∷ standing_from m t (suc p)
  next_alone h e = next_place h ∙ ap (λ s. alone_from p (s ∷ drop (suc p) (take m (slots t)))) (alone_first (at t p) e)

  pub next_other : p < m → is_alone (at t p) ≡ false → standing_from m t p ≡ standing_from m t (suc p)
  next_other h e = next_place h ∙ go (at t p) e
    where
      go : (s : Slot) → is_alone s ≡ false → alone_from p (s ∷ drop (suc p) (take m (slots t))) ≡ standing_from m t (suc p)
      go unlit e = refl
      go (alone a) e = absurd (true≢false e)
      go (shared a b) e = refl

  -- from m on there are none
  past_places : m ≤ p → standing_from m t p ≡ []
  past_places h = ap (alone_from p) (drop_of_length-le (take m (slots t)) {i = p} (rw (below_length m t long) h))

-- the search is at the row of place p: what is found among all pairs is found among those of the rows from there on
pub record AtRow (f : Standing × Standing → Bool) (m : ℕ) (t : Channels) (p : ℕ) : Type 0 where
  pub long : m ≤ length t
  pub left : first_hit f (pairs_of (nonsharing m t)) ≡ first_hit f (pairs_of (standing_from m t p))

-- it is at the pair of a, which stands at place p, and what stands at q
pub record AtPair (f : Standing × Standing → Bool) (m : ℕ) (t : Channels) (a : Standing) (p q : ℕ) : Type 0 where
  pub long : m ≤ length t
  pub left : first_hit f (pairs_of (nonsharing m t)) ≡ first_hit f (pairs_with a (standing_from m t q) ++ pairs_of (standing_from m t (p + 1)))

-- rows of places below one from which on pairs may pass are passed by
skip_rows : (f : Standing × Standing → Bool) (m : ℕ) (t : Channels) → m ≤ length t → (from : ℕ) → Skipping f from (pairs_of (nonsharing m t)) → (k : ℕ) → k ≤ from
    → (first_hit f (pairs_of (nonsharing m t)) ≡ first_hit f (pairs_of (standing_from m t k))) × Skipping f from (pairs_of (standing_from m t k))
skip_rows f m t long from s zero l = (refl, s)
skip_rows f m t long from s (suc k) l = go (dec_lt k m) (is_alone (at t k)) refl (skip_rows f m t long from s k (omega arith))
  where
    row : List (Standing × Standing)
    row = pairs_with (there t k) (standing_from m t (suc k))

    rest : List (Standing × Standing)
    rest = pairs_of (standing_from m t (suc k))

    Good : List (Standing × Standing) → Type 0
    Good l = (first_hit f (pairs_of (nonsharing m t)) ≡ first_hit f l) × Skipping f from l

    go : Dec (k < m) → (o : Bool) → is_alone (at t k) ≡ o → Good (pairs_of (standing_from m t k)) → Good rest
    go (yes h) true e g =
        let both = rw (next_alone m t long k h e) at g in (
          both.0 ∙ hit_misses f row rest (row_fails f from (there t k) (standing_from m t (suc k)) l (all_left _ row rest both.1)),
          all_right _ row rest both.1,
        )
    go (yes h) false e g = rw (next_other m t long k h e) at g
    go (no h) o e g = subst Good (ap pairs_of (past_places m t long k (omega arith) ∙ sym (past_places m t long (suc k) (omega arith)))) g

module _ {f : Standing × Standing → Bool} {m : ℕ} {t : Channels} where
  -- it starts at the first row that is not passed by
  pub rows_start : (from : ℕ) → length t ≡ place_count → m ≤ place_count → Skipping f from (pairs_of (nonsharing m t)) → AtRow f m t from
  rows_start from e l s = let long : m ≤ length t = omega arith in record { long = long; left = (skip_rows f m t long from s from (omega arith)).0 }

  -- the row of a place with no circuit alone is empty
  pub row_none : {p : ℕ} → AtRow f m t p → p < m → is_alone (at t p) ≡ false → AtRow f m t (p + 1)
  row_none {p} w h e = record { long = w.long; left = w.left ∙ rw (add-one p) (ap (λ l. first_hit f (pairs_of l)) (next_other m t w.long p h e)) }

  -- another starts at the pair with the next place
  pub row_enter : {p : ℕ} {c : Circuit} → AtRow f m t p → p < m → at t p ≡ alone c → AtPair f m t (record { place = p; circuit = c }) p (p + 1)
  row_enter {p} {c} w h k =
      let e : is_alone (at t p) ≡ true = rw k in
      let is : first_of (at t p) ≡ c = rw k in
      record { long = w.long; left = w.left ∙ rw (add-one p, ← is) (ap (λ l. first_hit f (pairs_of l)) (next_alone m t w.long p h e)) }

  -- after its last pair comes the next row
  pub row_leave : {a : Standing} {p q : ℕ} → AtPair f m t a p q → m ≤ q → AtRow f m t (p + 1)
  row_leave {a} {p} {q} w h = record { long = w.long; left = rw (past_places m t w.long q h) at w.left }

  -- a place with no circuit alone is passed over
  pub pair_none : {a : Standing} {p q : ℕ} → AtPair f m t a p q → q < m → is_alone (at t q) ≡ false → AtPair f m t a p (q + 1)
  pair_none {a} {p} {q} w h k = record { long = w.long; left = rw (add-one q) (rw (next_other m t w.long q h k) at w.left) }

  module _ {a : Standing} {p q : ℕ} {c : Circuit} (w : AtPair f m t a p q) (h : q < m) (k : at t q ≡ alone c) where
    left_here : first_hit f (pairs_of (nonsharing m t))
        ≡ first_hit f ((a, record { place = q; circuit = c }) ∷ (pairs_with a (standing_from m t (suc q)) ++ pairs_of (standing_from m t (p + 1))))
    left_here =
        let e : is_alone (at t q) ≡ true = rw k in
        let is : first_of (at t q) ≡ c = rw k in
        rw (← is) (rw (next_alone m t w.long q h e) at w.left)

    -- a pair that fails is passed over
    pub pair_miss : {r : Bool} → r ≡ f (a, record { place = q; circuit = c }) → r ≡ false → AtPair f m t a p (q + 1)
    pair_miss e n = record {
      long = w.long;
      left =
          left_here
          ∙ hit_miss f (a, record { place = q; circuit = c }) (pairs_with a (standing_from m t (suc q)) ++ pairs_of (standing_from m t (p + 1))) (sym e ∙ n)
          ∙ rw (add-one q);
    }

    -- one that passes is the first
    pub pair_hit : {r : Bool} → r ≡ f (a, record { place = q; circuit = c }) → r ≡ true
        → Some (record { first = a; second = record { place = q; circuit = c } }) ≡ first_hit f (pairs_of (nonsharing m t))
    pair_hit e n = sym (left_here ∙ found (sym e ∙ n))
      where
        found : f (a, record { place = q; circuit = c }) ≡ true
            → first_hit f ((a, record { place = q; circuit = c }) ∷ (pairs_with a (standing_from m t (suc q)) ++ pairs_of (standing_from m t (p + 1))))
            ≡ Some (record { first = a; second = record { place = q; circuit = c } })
        found i = rw i

  -- past the last row there is none
  pub rows_end : {p : ℕ} → AtRow f m t p → m ≤ p → None ≡ first_hit f (pairs_of (nonsharing m t))
  rows_end {p} w h = sym (rw (past_places m t w.long p h) at w.left)

pub ruleset seek = (array_length, rows_start, row_none, row_enter, row_leave, pair_none, pair_miss, pair_hit, rows_end)
