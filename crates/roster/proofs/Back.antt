-- The circuits set up again at their places: a table whose entries they are comes back. Assumes nothing.
use Prim.Native.Nat.{ℕ, zero, suc, ◌+◌, ◌≤◌, ◌<◌}
use mathlib.Core.Path.{◌≡◌, refl, sym, ap, ◌∙◌}
use mathlib.Core.Logic.{◌≢◌}
use mathlib.Core.Bool.{Bool, true, false}
use mathlib.Core.List.{List, [], ◌∷◌}
use native.Mathlib.Decide.{ℕ_discrete, dec_lt}
use native.Mathlib.Omega.{arith}
use lib.Dec.{eqb}
use lib.ListN.{length, length-replicate, get_or-replicate}
use borrow.Author.Tests.{eq-eqb, ne_eqb, lt-ltb, le-ltb}
use Rattle.basis.specs.Choice.{pick, bit}
use Rattle.basis.specs.Count.{weigh, All}
use Rattle.basis.proofs.Bools.{bit_eq, bit_ne}
use Rattle.limits.specs.Limits.{place_count}
use Rattle.lightpath.specs.declared.Circuit.{Circuit}
use Rattle.lightpath.proofs.Same.{same_circuit}
use Rattle.slots.specs.Slot.{held, together}
use Rattle.slots.specs.declared.Slot.{Slot}
use Rattle.slots.specs.declared.Slot.TheVariants.{Unlit as unlit, Alone as alone, Shared as shared}
use Rattle.slots.proofs.Contents.{together_weighs}
use Rattle.channels.specs.Channels.{Channels, unlit_channel, unlit_channels, at, slots, circuits}
use Rattle.channels.specs.declared.Standing.{Standing}
use Rattle.channels.specs.declared.Change.{Change}
use Rattle.channels.specs.Change.{◌gets◌, put}
use Rattle.channels.proofs.Places.{put_length, put_here, put_there, put_sum, weigh_slots}
use Rattle.rules.specs.Rules.{fits}
use Rattle.rules.proofs.Rules.{Rules, limits_hold}
use Rattle.rules.proofs.Fits.{couple}
use Rattle.steps.specs.Following.{with, set_up}
use Rattle.roster.specs.Roster.{entries, stood_up}
use Rattle.roster.proofs.Standings.{of_place, entries_at}

-- the circuits of a list that stand at place p, in its order
abbrev stand_at : ℕ → List Standing → List Circuit
stand_at p [] = []
stand_at p (m ∷ ms) = pick (eqb m.place p) (m.circuit ∷ stand_at p ms) (stand_at p ms)

stand_weighs : (w : Circuit → ℕ) (p : ℕ) (ms : List Standing) → weigh w (stand_at p ms) ≡ weigh (of_place w p) ms
stand_weighs w p [] = refl
stand_weighs w p (m ∷ ms) = go (eqb m.place p) (stand_weighs w p ms)
  where
    go : (o : Bool) → weigh w (stand_at p ms) ≡ weigh (of_place w p) ms
        → weigh w (pick o (m.circuit ∷ stand_at p ms) (stand_at p ms)) ≡ pick o (w m.circuit) 0 + weigh (of_place w p) ms
    go true h = omega arith
    go false h = omega arith

-- what a place holds once some circuits are set up there
abbrev with_all : List Circuit → Slot → Slot
with_all [] s = s
with_all (x ∷ xs) s = with_all xs (with x s)

-- there are as many places as before
pub stood_length : (ms : List Standing) (t : Channels) → length (stood_up ms t) ≡ length t
stood_length [] t = refl
stood_length (m ∷ ms) t = stood_length ms (set_up m.circuit m.place t) ∙ put_length (m.place gets with m.circuit (at t m.place)) t

-- and each has what stood there and what the list has for it
stood_at : (ms : List Standing) (t : Channels) (p : ℕ) → p < length t → at (stood_up ms t) p ≡ with_all (stand_at p ms) (at t p)
stood_at [] t p l = refl
stood_at (m ∷ ms) t p l =
    go (ℕ_discrete m.place p)
    (stood_at ms (set_up m.circuit m.place t) p (omega (arith, put_length (m.place gets with m.circuit (at t m.place)) t)))
  where
    ch : Change
    ch = m.place gets with m.circuit (at t m.place)

    go : Dec (m.place ≡ p) → at (stood_up ms (put ch t)) p ≡ with_all (stand_at p ms) (at (put ch t) p)
        → at (stood_up ms (put ch t)) p ≡ with_all (stand_at p (m ∷ ms)) (at t p)
    go (yes e) next =
        let k : at (put ch t) p ≡ with m.circuit (at t p) =
        ap (λ q. at (put ch t) q) (sym e) ∙ put_here ch t (rw e l) ∙ ap (λ q. with m.circuit (at t q)) e in
        next ∙ rw (eq-eqb m.place p e) (ap (λ s. with_all (stand_at p ms) s) k)
    go (no n) next = next ∙ rw (ne_eqb m.place p n) (ap (λ s. with_all (stand_at p ms) s) (put_there ch t p (λ e. n (sym e))))

-- the weights of what a place holds tell what it holds: of two with two numbers,
one_of : (x y a b : Circuit) → a.number < b.number → ((w : Circuit → ℕ) → w x + w y ≡ w a + w b) → x.number ≡ a.number → (x ≡ a) × (y ≡ b)
one_of x y a b l h e = (same_circuit x a same, same_circuit y b (λ w. omega (arith, h w, same w)))
  where
    other : y.number ≢ a.number
    other f =
        absurd (omega (
          arith,
          h (λ c. bit (eqb c.number a.number)),
          bit_eq x.number a.number e,
          bit_eq y.number a.number f,
          bit_eq a.number a.number refl,
          bit_ne b.number a.number (λ g. absurd (omega arith)),
        ))

    same : (w : Circuit → ℕ) → w x ≡ w a
    same w =
        let k = h (λ c. pick (eqb c.number a.number) (w c) 0) in
        omega (
          arith,
          rw (
            eq-eqb x.number a.number e,
            ne_eqb y.number a.number other,
            eq-eqb a.number a.number refl,
            ne_eqb b.number a.number (λ g. absurd (omega arith)),
          ) at k,
        )

-- and of any that fit there
rebuilt : (N p : ℕ) (s : Slot) (xs : List Circuit) → fits N p s ≡ true → ((w : Circuit → ℕ) → weigh w xs ≡ weigh w (held s)) → with_all xs unlit ≡ s
rebuilt N p unlit [] f h = refl
rebuilt N p unlit (x ∷ xs) f h = absurd (omega (arith, h (λ c. 1)))
rebuilt N p (alone a) [] f h = absurd (omega (arith, h (λ c. 1)))
rebuilt N p (alone a) (x ∷ []) f h = ap alone (same_circuit x a (λ w. omega (arith, h w)))
rebuilt N p (alone a) (x ∷ y ∷ ys) f h = absurd (omega (arith, h (λ c. 1)))
rebuilt N p (shared a b) [] f h = absurd (omega (arith, h (λ c. 1)))
rebuilt N p (shared a b) (x ∷ []) f h = absurd (omega (arith, h (λ c. 1)))
rebuilt N p (shared a b) (x ∷ y ∷ z ∷ zs) f h = absurd (omega (arith, h (λ c. 1)))
rebuilt N p (shared a b) (x ∷ y ∷ []) f h = go (ℕ_discrete x.number a.number)
  where
    l : a.number < b.number
    l = (couple N p a b f).order

    two : (w : Circuit → ℕ) → w x + w y ≡ w a + w b
    two w = omega (arith, h w)

    go : Dec (x.number ≡ a.number) → together x y ≡ shared a b
    go (yes e) = let k = one_of x y a b l two e in rw (k.0, k.1, lt-ltb a.number b.number l)
    go (no n) = let k = one_of y x a b l (λ w. omega (arith, two w)) first in rw (k.0, k.1, le-ltb b.number a.number (omega (arith, l)))
      where
        first : y.number ≡ a.number
        first = at_y (ℕ_discrete y.number a.number)
          where
            at_y : Dec (y.number ≡ a.number) → y.number ≡ a.number
            at_y (yes e) = e
            at_y (no m) =
                absurd (omega (
                  arith,
                  two (λ c. bit (eqb c.number a.number)),
                  bit_ne x.number a.number n,
                  bit_ne y.number a.number m,
                  bit_eq a.number a.number refl,
                ))

-- places that have the same contents are the same
same_channels : (t u : Channels) → length t ≡ length u → ((p : ℕ) → p < length t → at t p ≡ at u p) → t ≡ u
same_channels [] [] e h = refl
same_channels [] (d ∷ u) e h = absurd (omega arith)
same_channels (c ∷ t) [] e h = absurd (omega arith)
same_channels (c ∷ t) (d ∷ u) e h = cons (h 0 (omega arith)) (same_channels t u (omega arith) (λ p l. h (suc p) (omega arith)))
  where
    cons : c.slot ≡ d.slot → t ≡ u → c ∷ t ≡ d ∷ u
    cons f g = λ i. record { slot = f i } ∷ g i

-- the entries of a table that meets the ring rules, set up again, are its places
pub stood_back : (N : ℕ) (ks : List ℕ) (t : Channels) → Rules N ks t → stood_up (entries t) unlit_channels ≡ t
stood_back N ks t rules =
    same_channels (stood_up (entries t) unlit_channels) t (many ∙ sym long)
    (λ p l. stood_at (entries t) unlit_channels p (omega (arith, many, length-replicate place_count unlit_channel)) ∙ place p (omega (arith, many)))
  where
    long : length t ≡ place_count
    long = (limits_hold N ks t rules).long

    many : length (stood_up (entries t) unlit_channels) ≡ place_count
    many = stood_length (entries t) unlit_channels ∙ length-replicate place_count unlit_channel

    place : (p : ℕ) → p < place_count → with_all (stand_at p (entries t)) (at unlit_channels p) ≡ at t p
    place p l =
        rw (get_or-replicate place_count p unlit_channel unlit_channel l)
        (rebuilt N p (at t p) (stand_at p (entries t)) (rules.places p l) (λ w. stand_weighs w p (entries t) ∙ entries_at t w p))

-- a place that there is not gets nothing
pub out_of_range : (s : Slot) (t : Channels) (p : ℕ) → length t ≤ p → put (p gets s) t ≡ t
out_of_range s [] p l = refl
out_of_range s (c ∷ t) zero l = absurd (omega arith)
out_of_range s (c ∷ t) (suc p) l = ap (λ (u : Channels). c ∷ u) (out_of_range s t p (omega arith))

-- a weight of what is set up is at most that of the list and of what stood
pub stood_weighs : (w : Circuit → ℕ) (ms : List Standing) (t : Channels) → All (λ m. w m.circuit ≡ 0) ms → weigh w (circuits t) ≡ 0
    → weigh w (circuits (stood_up ms t)) ≡ 0
stood_weighs w [] t h z = z
stood_weighs w (m ∷ ms) t h z = stood_weighs w ms (set_up m.circuit m.place t) h.1 (once (dec_lt m.place (length t)))
  where
    ch : Change
    ch = m.place gets with m.circuit (at t m.place)

    more : (s : Slot) → weigh w (held (with m.circuit s)) ≤ w m.circuit + weigh w (held s)
    more unlit = omega arith
    more (alone a) = omega (arith, together_weighs w a m.circuit)
    more (shared a b) = omega arith

    once : Dec (m.place < length t) → weigh w (circuits (put ch t)) ≡ 0
    once (yes l) =
        omega (
          arith,
          put_sum ch t (λ s. weigh w (held s)) l,
          weigh_slots w (slots t),
          weigh_slots w (slots (put ch t)),
          more (at t m.place),
          h.0,
        )
    once (no n) = rw (out_of_range ch.slot t m.place (omega arith)) z
