-- Circuits by their numbers: where one stands, and which it is. Assumes nothing.
use Prim.Native.Nat.{ℕ, ◌≤◌, ◌<◌}
use mathlib.Core.Path.{◌≡◌, refl, sym, ◌∙◌}
use mathlib.Core.Logic.{◌≢◌}
use mathlib.Core.Bool.{Bool, true, false}
use mathlib.Core.List.{List, [], ◌∷◌}
use native.Mathlib.Decide.{dec_lt}
use native.Mathlib.Omega.{arith}
use lib.Dec.{eqb, ltb}
use lib.ListN.{length}
use borrow.Author.Tests.{ltb-true, ltb-false, lt-ltb, le-ltb}
use Rattle.basis.specs.Choice.{bit}
use Rattle.basis.specs.Count.{weigh, distinct, All}
use Rattle.basis.proofs.Bools.{bit_eq, bit_ne, all_map, all_and, all_each}
use Rattle.basis.proofs.Search.{first_passes, none_passes_below, first_only, first_end}
use Rattle.basis.proofs.Weigh.{distinct_most, most_distinct, counted, keyed, keyed_none, keyed_each}
use Rattle.limits.specs.Limits.{place_count}
use Rattle.lightpath.specs.declared.Circuit.{Circuit}
use Rattle.lightpath.proofs.Same.{same_circuit}
use Rattle.slots.specs.Slot.{held, holds}
use Rattle.slots.specs.declared.Slot.TheVariants.{Unlit as unlit}
use Rattle.slots.proofs.Contents.{of_number, holds_count, named_weighs}
use Rattle.channels.specs.Channels.{Channels, at, circuits, numbered, live, where_is, circuit_of}
use Rattle.channels.specs.Change.{◌gets◌}
use Rattle.channels.proofs.Places.{weigh_place, weigh_places, weigh_nowhere}
use Rattle.channels.proofs.Puts.{Spared, whole}

-- the search for a number stops at a place that counts it
passes : (t : Channels) (n p : ℕ) → 0 < numbered n (held (at t p)) → holds n (at t p) ≡ true
passes t n p h = holds_count n (at t p) ∙ lt-ltb _ _ h

-- and passes by one that does not
fails : (t : Channels) (n p : ℕ) → numbered n (held (at t p)) ≡ 0 → holds n (at t p) ≡ false
fails t n p h = holds_count n (at t p) ∙ le-ltb 0 (numbered n (held (at t p))) (omega arith)

module _ (t : Channels) (n : ℕ) where
  -- where it is found, a circuit has it
  pub found_there : where_is t n < place_count → 0 < numbered n (held (at t (where_is t n)))
  found_there l =
      ltb-true _ _ (sym (holds_count n (at t (where_is t n))) ∙ first_passes place_count (λ p. holds n (at t p)) l)

  -- a number that is not live stands nowhere
  pub dead_nowhere : numbered n (circuits t) ≡ 0 → where_is t n ≡ place_count
  dead_nowhere z = first_end place_count (λ p. holds n (at t p)) (λ p l. fails t n p (omega (arith, weigh_place t (of_number n) p)))

  -- a live one stands somewhere
  pub live_placed : length t ≡ place_count → live t n ≡ true → where_is t n < place_count
  live_placed long l = go (dec_lt (where_is t n) place_count)
    where
      none : place_count ≤ where_is t n → (p : ℕ) → p < length t → numbered n (held (at t p)) ≡ 0
      none h p k =
          let e = sym (holds_count n (at t p)) ∙ none_passes_below place_count (λ p. holds n (at t p)) h p (omega arith) in
          omega (arith, ltb-false 0 (numbered n (held (at t p))) e)

      go : Dec (where_is t n < place_count) → where_is t n < place_count
      go (yes h) = h
      go (no h) = absurd (omega (arith, ltb-true 0 (numbered n (circuits t)) l, weigh_nowhere t (of_number n) (none (omega arith))))

  -- it is live exactly where it stands at a place
  pub live_where : length t ≡ place_count → live t n ≡ ltb (where_is t n) place_count
  live_where long = go (live t n) refl
    where
      go : (o : Bool) → live t n ≡ o → live t n ≡ ltb (where_is t n) place_count
      go true e = e ∙ sym (lt-ltb (where_is t n) place_count (live_placed long e))
      go false e = e ∙ sym (le-ltb (where_is t n) place_count (omega (arith, dead_nowhere (omega (arith, ltb-false 0 (numbered n (circuits t)) e)))))

module _ (t : Channels) (numbers : distinct (λ c. c.number) (circuits t) ≡ true) (n : ℕ) where
  -- it stands where a circuit has it
  pub stands_at_lem : (p : ℕ) → p < place_count → 0 < numbered n (held (at t p)) → where_is t n ≡ p
  stands_at_lem p l h =
      first_only place_count (λ p. holds n (at t p)) p l (passes t n p h)
      (λ q k. fails t n q
      (omega (arith, weigh_places t (of_number n) p q k, distinct_most (λ c. c.number) (circuits t) numbers n)))

  -- and at that place alone
  pub one_place_lem : (p : ℕ) → p < place_count → numbered n (held (at t p)) ≡ bit (eqb (where_is t n) p)
  one_place_lem p l = go (dec_lt 0 (numbered n (held (at t p))))
    where
      most : numbered n (held (at t p)) ≤ 1
      most = omega (arith, weigh_place t (of_number n) p, distinct_most (λ c. c.number) (circuits t) numbers n)

      other : numbered n (held (at t p)) ≡ 0 → where_is t n ≢ p
      other z e = let h : 0 < numbered n (held (at t p)) = rw e at (found_there t n (rw e l)) in omega arith

      go : Dec (0 < numbered n (held (at t p))) → numbered n (held (at t p)) ≡ bit (eqb (where_is t n) p)
      go (yes h) = omega (arith, most, bit_eq (where_is t n) p (stands_at_lem p l h))
      go (no h) = omega (arith, bit_ne (where_is t n) p (other (omega arith)))

module _ (t : Channels) (numbers : distinct (λ c. c.number) (circuits t) ≡ true) (long : length t ≡ place_count) where
  -- so it is in a table
  keyed_weighs : (w : Circuit → ℕ) (n : ℕ) → live t n ≡ true → weigh (keyed (λ c. c.number) n w) (circuits t) ≡ w (circuit_of t n)
  keyed_weighs w n l =
      omega (
        arith,
        whole (keyed (λ c. c.number) n w) ((where_is t n gets unlit) ∷ []) t (tt, tt) (rw long placed, tt) elsewhere,
        named_weighs w n (at t (where_is t n)) (omega (arith, one_place_lem t numbers n (where_is t n) placed, bit_eq (where_is t n) (where_is t n) refl)),
      )
    where
      placed : where_is t n < place_count
      placed = live_placed t n long l

      elsewhere : (p : ℕ) → p < length t → Spared ((where_is t n gets unlit) ∷ []) p → weigh (keyed (λ c. c.number) n w) (held (at t p)) ≡ 0
      elsewhere p i d =
          keyed_none (λ c. c.number) n w (held (at t p)) (omega (arith, one_place_lem t numbers n p (omega arith), bit_ne (where_is t n) p (λ e. d.0 (sym e))))

  -- a table that weighs what some circuits do holds each of them under its number
  pub holds_each : (cs : List Circuit) → ((w : Circuit → ℕ) → weigh w (circuits t) ≡ weigh w cs) → All (λ x. circuit_of t x.number ≡ x) cs
  holds_each cs h = all_map _ _ one cs (all_and _ _ cs (counted (λ c. c.number) cs) (all_each _ cs (λ w. keyed_each (λ c. c.number) w cs apart)))
    where
      apart : distinct (λ c. c.number) cs ≡ true
      apart =
          most_distinct (λ c. c.number) cs
          (λ k. omega (arith, h (of_number k), distinct_most (λ c. c.number) (circuits t) numbers k))

      there : (n : ℕ) → 0 < numbered n cs → live t n ≡ true
      there n l = lt-ltb 0 (numbered n (circuits t)) (omega (arith, h (of_number n)))

      one : (x : Circuit) → (0 < numbered x.number cs) × ((w : Circuit → ℕ) → weigh (keyed (λ c. c.number) x.number w) cs ≡ w x)
          → circuit_of t x.number ≡ x
      one x e =
          same_circuit (circuit_of t x.number) x
          (λ w. sym (keyed_weighs w x.number (there x.number e.0)) ∙ h (keyed (λ c. c.number) x.number w) ∙ e.1 w)
