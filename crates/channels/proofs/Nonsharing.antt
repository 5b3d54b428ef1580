-- The nonsharing circuits of the places below a limit: each stands alone at its place, by rising place. Assumes nothing.
use Prim.Native.Nat.{ℕ, suc, ◌+◌, ◌-◌, ◌≤◌, ◌<◌, zero-le}
use mathlib.Core.Path.{◌≡◌, refl, sym, ap, subst, ◌∙◌}
use mathlib.Core.Logic.{◌⊎◌, inl, inr}
use mathlib.Core.Bool.{true, true≢false}
use mathlib.Core.List.{List, [], ◌∷◌, ◌++◌}
use native.Mathlib.Decide.{ℕ_discrete}
use native.Mathlib.Omega.{arith}
use lib.ListN.{length, get_or, take, length-take}
use lib.Seq.{length-take-le, get_or-take}
use Rattle.basis.specs.Count.{All}
use Rattle.basis.specs.Search.{pairs_of}
use Rattle.basis.proofs.Bools.{all_join, all_map}
use Rattle.basis.proofs.Pairs.{Ordered, ordered_front, pairs_each}
use Rattle.slots.specs.Slot.{is_alone, first_of}
use Rattle.slots.specs.declared.Slot.{Slot}
use Rattle.slots.specs.declared.Slot.TheVariants.{Unlit as unlit, Alone as alone, Shared as shared}
use Rattle.slots.proofs.Contents.{alone_first}
use Rattle.channels.specs.Channels.{Channels, at, slots}
use Rattle.channels.specs.Nonsharing.{Standing, alone_from, nonsharing, standing_at}
use Rattle.channels.proofs.Places.{slots_length, slots_at}

-- a circuit alone at a place below m
pub record Stands (m : ℕ) (t : Channels) (s : Standing) : Type 0 where
  pub low : s.place < m
  pub there : at t s.place ≡ alone s.circuit

-- one standing stands lower than another
abbrev pub Lower : Standing → Standing → Type 0
Lower a b = a.place < b.place

-- a standing is one of a list of contents, whose places count from p
abbrev In : ℕ → List Slot → Standing → Type 0
In p u s = (p ≤ s.place) × (s.place < p + length u) × (get_or u (s.place - p) unlit ≡ alone s.circuit)

-- so it is with one more content in front
in_next : (p : ℕ) (x : Slot) (u : List Slot) (s : Standing) → In (suc p) u s → In p (x ∷ u) s
in_next p x u s h = let e : s.place - p ≡ suc (s.place - suc p) = omega arith in (omega arith, omega arith, rw e h.2)

-- each circuit listed is one of the contents
alone_in : (p : ℕ) (u : List Slot) → All (In p u) (alone_from p u)
alone_in p [] = tt
alone_in p (unlit ∷ u) = all_map _ _ (in_next p unlit u) (alone_from (suc p) u) (alone_in (suc p) u)
alone_in p (alone a ∷ u) =
    let e : p - p ≡ 0 = omega arith in
    ((omega arith, omega arith, rw e refl), all_map _ _ (in_next p (alone a) u) (alone_from (suc p) u) (alone_in (suc p) u))
alone_in p (shared a b ∷ u) = all_map _ _ (in_next p (shared a b) u) (alone_from (suc p) u) (alone_in (suc p) u)

-- one of the contents is the first, or one of the others
in_first : (p : ℕ) (x : Slot) (u : List Slot) (s : Standing) → In p (x ∷ u) s → ((s.place ≡ p) × (x ≡ alone s.circuit)) ⊎ In (suc p) u s
in_first p x u s h = go (ℕ_discrete s.place p)
  where
    go : Dec (s.place ≡ p) → ((s.place ≡ p) × (x ≡ alone s.circuit)) ⊎ In (suc p) u s
    go (yes e) = let z : s.place - p ≡ 0 = omega arith in inl (e, rw z at h.2)
    go (no n) = let z : s.place - p ≡ suc (s.place - suc p) = omega arith in inr (omega arith, omega arith, rw z at h.2)

-- so what holds of each circuit listed holds of each alone among the contents
in_all : (P : Standing → Type 0) (p : ℕ) (u : List Slot) → All P (alone_from p u) → (s : Standing) → In p u s → P s
in_all P p [] h s i = absurd (omega (arith, i.0, i.1))
in_all P p (unlit ∷ u) h s i = go (in_first p unlit u s i) (in_all P (suc p) u h s)
  where
    go : ((s.place ≡ p) × (unlit ≡ alone s.circuit)) ⊎ In (suc p) u s → (In (suc p) u s → P s) → P s
    go (inl e) rest = absurd (true≢false (sym (ap is_alone e.1)))
    go (inr i) rest = rest i
in_all P p (alone a ∷ u) h s i = go (in_first p (alone a) u s i) (in_all P (suc p) u h.1 s)
  where
    go : ((s.place ≡ p) × (alone a ≡ alone s.circuit)) ⊎ In (suc p) u s → (In (suc p) u s → P s) → P s
    go (inl e) rest = subst P (λ j. record { place = sym e.0 j; circuit = first_of (e.1 j) }) h.0
    go (inr i) rest = rest i
in_all P p (shared a b ∷ u) h s i = go (in_first p (shared a b) u s i) (in_all P (suc p) u h s)
  where
    go : ((s.place ≡ p) × (shared a b ≡ alone s.circuit)) ⊎ In (suc p) u s → (In (suc p) u s → P s) → P s
    go (inl e) rest = absurd (true≢false (sym (ap is_alone e.1)))
    go (inr i) rest = rest i

-- they are listed by rising place, with one last that stands after them
rising : (p : ℕ) (u : List Slot) (new : Standing) → p + length u ≤ new.place → Ordered Lower (alone_from p u ++ new ∷ [])
rising p [] new h = (tt, tt)
rising p (unlit ∷ u) new h = rising (suc p) u new (omega arith)
rising p (alone a ∷ u) new h = (
  all_join (λ b. p < b.place) (alone_from (suc p) u) (new ∷ [])
      (all_map (In (suc p) u) _ (λ s i. i.0) (alone_from (suc p) u) (alone_in (suc p) u)) (omega arith, tt),
  rising (suc p) u new (omega arith),
)
rising p (shared a b ∷ u) new h = rising (suc p) u new (omega arith)

-- there are no more of them than contents
alone_most : (p : ℕ) (u : List Slot) → length (alone_from p u) ≤ length u
alone_most p [] = zero-le
alone_most p (unlit ∷ u) = omega (arith, alone_most (suc p) u)
alone_most p (alone a ∷ u) = omega (arith, alone_most (suc p) u)
alone_most p (shared a b ∷ u) = omega (arith, alone_most (suc p) u)

-- the first circuit of a place with one alone stands there
pub stands_alone : (m : ℕ) (t : Channels) (p : ℕ) → p < m → is_alone (at t p) ≡ true → Stands m t (standing_at t p)
stands_alone m t p l h = record { low = l; there = alone_first (at t p) h }

module _ (m : ℕ) (t : Channels) (within : m ≤ length t) where
  -- the contents below the limit, how many and which
  pub below_length : length (take m (slots t)) ≡ m
  below_length = length-take-le m (slots t) (omega (arith, slots_length t))

  pub below_at : (p : ℕ) → p < m → get_or (take m (slots t)) p unlit ≡ at t p
  below_at p l = get_or-take m (slots t) p unlit l ∙ slots_at t p

  -- each nonsharing circuit stands at its place
  pub nonsharing_stand : All (Stands m t) (nonsharing m t)
  nonsharing_stand = all_map _ _ stand (nonsharing m t) (alone_in 0 (take m (slots t)))
    where
      stand : (s : Standing) → In 0 (take m (slots t)) s → Stands m t s
      stand s h =
          let l : s.place < m = omega (arith, below_length) in
          let e : s.place - 0 ≡ s.place = omega arith in
          record { low = l; there = sym (below_at s.place l) ∙ rw e at h.2 }

  -- by rising place, with one last that stands at no place below the limit
  pub nonsharing_rise : (new : Standing) → m ≤ new.place → Ordered Lower (nonsharing m t ++ new ∷ [])
  nonsharing_rise new l = rising 0 (take m (slots t)) new (omega (arith, below_length))

module _ (m : ℕ) (t : Channels) (within : m ≤ length t) where
  -- what holds of each nonsharing circuit listed holds of each that stands below the limit
  stands_all : (P : Standing → Type 0) → All P (nonsharing m t) → (s : Standing) → Stands m t s → P s
  stands_all P h s k =
      let e : s.place - 0 ≡ s.place = omega arith in
      in_all P 0 (take m (slots t)) h s
      (omega arith, omega (arith, below_length m t within, k.low), rw e (below_at m t within s.place k.low ∙ k.there))

  -- they are by rising place, without one last too
  pub nonsharing_ordered : Ordered Lower (nonsharing m t)
  nonsharing_ordered =
      let last : Standing = record { place = m; circuit = (standing_at t 0).circuit } in
      ordered_front Lower (nonsharing m t) (last ∷ []) (nonsharing_rise m t within last (omega arith))

  -- what holds of each pair of them listed holds of each two that stand below the limit, the lower first
  pub stands_pairs : (P : Standing × Standing → Type 0) → All P (pairs_of (nonsharing m t)) → (a b : Standing) → Stands m t a → Stands m t b → Lower a b
      → P (a, b)
  stands_pairs P h a b sa sb l =
      stands_all (λ b. Lower a b → P (a, b))
      (stands_all (λ a. All (λ b. Lower a b → P (a, b)) (nonsharing m t))
      (pairs_each P Lower (λ a b r s. absurd (omega arith)) (nonsharing m t) nonsharing_ordered h) a sa) b sb l

-- there are no more of them than places below the limit
pub nonsharing_most : (m : ℕ) (t : Channels) → length (nonsharing m t) ≤ m
nonsharing_most m t = omega (arith, alone_most 0 (take m (slots t)), length-take m (slots t))
