-- One circuit is taken off and opened again: the records of the opening, after the circuit's own, name each circuit that has moved, and a host
-- that carries them out has the places after it. Assumes nothing.
use Prim.Native.Nat.{◌+◌, ℕ, ◌<◌}
use mathlib.Core.Path.{ap, subst, ◌≡◌, refl, sym, ◌∙◌}
use mathlib.Core.Logic.{◌≢◌}
use mathlib.Core.Bool.{true}
use mathlib.Core.List.{List, [], ◌∷◌}
use native.Mathlib.Decide.{ℕ_discrete, dec_lt}
use native.Mathlib.Omega.{arith}
use borrow.Author.Tests.{ne_eqb, ltb-true, lt-ltb}
use Rattle.basis.specs.Choice.{bit}
use Rattle.basis.proofs.Bools.{bit_eq, bit_ne, all_map}
use Rattle.basis.proofs.Weigh.{by_key, distinct_most}
use Rattle.limits.specs.Limits.{place_count}
use Rattle.lightpath.specs.declared.Circuit.{Circuit}
use Rattle.slots.proofs.Contents.{of_number}
use Rattle.channels.specs.Channels.{Channels, circuits, numbered, live, where_is}
use Rattle.channels.proofs.Numbers.{live_placed}
use Rattle.moves.specs.declared.Move.{Move}
use Rattle.rules.proofs.Rules.{Rules, rules_hold, limits_hold}
use Rattle.steps.specs.Plan.{moves_to}
use Rattle.steps.specs.Following.{relocated}
use Rattle.steps.specs.Kept.{Kept}
use Rattle.steps.specs.Moved.{moved_to, Names}
use Rattle.steps.proofs.Chain.{records_of, unmoved, named_once, kept_from}
use Rattle.steps.proofs.Carrying.{relocates}

-- the record of a circuit's own move to place p
abbrev pub own_move : Channels → Circuit → ℕ → Move
own_move t x p = moves_to (record { place = where_is t x.number; circuit = x }) p

module _ (N : ℕ) (ks : List ℕ) (t t₁ t₂ : Channels) (x : Circuit) (p : ℕ) (ms : List Move) (rules : Rules N ks t)
    (first : Kept N ks t (x ∷ []) [] t₁ []) (second : Kept N ks t₁ [] (x ∷ []) t₂ ms) (placed : where_is t₂ x.number ≡ p)
    (other : where_is t x.number ≢ p) where
  -- a number that is live is so at the end, and stands somewhere
  stands : (k : ℕ) → 0 < numbered k (circuits t₂) → where_is t₂ k < place_count
  stands k l = live_placed t₂ k (limits_hold N ks t₂ (rules_hold N ks t₂ second.rules)).long (lt-ltb 0 (numbered k (circuits t₂)) l)

  -- its own number is live before, and not between
  own_live : 0 < numbered x.number (circuits t)
  own_live = omega (arith, first.exact (of_number x.number), bit_eq x.number x.number refl)

  own_off : numbered x.number (circuits t₁) ≡ 0
  own_off =
      omega (
        arith,
        first.exact (of_number x.number),
        bit_eq x.number x.number refl,
        distinct_most (λ c. c.number) (circuits t) rules.numbers x.number,
      )

  -- every other number is live between where it is before
  same_count : (k : ℕ) → x.number ≢ k → numbered k (circuits t₁) ≡ numbered k (circuits t)
  same_count k n = omega (arith, first.exact (of_number k), bit_ne x.number k n)

  -- and stands where it does
  same_place : (k : ℕ) → x.number ≢ k → 0 < numbered k (circuits t) → where_is t₁ k ≡ where_is t k
  same_place k n l =
      unmoved t t₁ k
      (live_placed t₁ k (limits_hold N ks t₁ (rules_hold N ks t₁ first.rules)).long (lt-ltb 0 (numbered k (circuits t₁)) (omega (arith, same_count k n))))
      (sym (named_once N ks t (x ∷ []) [] t₁ [] first k (lt-ltb 0 (numbered k (circuits t)) l)))

  -- the opening's records are of other circuits
  apart : (m : Move) → Names t₁ t₂ m → x.number ≢ m.number
  apart m h e =
      let l : 0 < numbered x.number (circuits t₁) = rw (← e) at (ltb-true 0 (numbered m.number (circuits t₁)) h.was) in omega (arith, own_off)

  names : (m : Move) → Names t₁ t₂ m → Names t t₂ m
  names m h =
      let l : 0 < numbered m.number (circuits t) = omega (arith, same_count m.number (apart m h), ltb-true 0 (numbered m.number (circuits t₁)) h.was) in
      record {
        was = lt-ltb 0 (numbered m.number (circuits t)) l;
        old = h.old ∙ same_place m.number (apart m h) l;
        now = h.now;
      }

  -- so none is of its own
  own_none : records_of x.number ms ≡ 0
  own_none = go (dec_lt 0 (records_of x.number ms))
    where
      go : Dec (0 < records_of x.number ms) → records_of x.number ms ≡ 0
      go (yes l) = absurd (by_key (λ m. m.number) (λ k. x.number ≢ k) ms (all_map _ _ apart ms second.named) x.number l refl)
      go (no h) = omega arith

  once : (k : ℕ) → live t k ≡ true → records_of k (own_move t x p ∷ ms) ≡ bit (moved_to t t₂ k)
  once k l = go (ℕ_discrete x.number k)
    where
      some : 0 < numbered k (circuits t)
      some = ltb-true 0 (numbered k (circuits t)) l

      go : Dec (x.number ≡ k) → records_of k (own_move t x p ∷ ms) ≡ bit (moved_to t t₂ k)
      go (yes e) = subst (λ (n : ℕ). records_of n (own_move t x p ∷ ms) ≡ bit (moved_to t t₂ n)) e (own_first ∙ sym has_moved)
        where
          own_first : records_of x.number (own_move t x p ∷ ms) ≡ 1
          own_first = ap (λ n. n + records_of x.number ms) (bit_eq x.number x.number refl) ∙ ap (λ n. 1 + n) own_none

          has_moved : bit (moved_to t t₂ x.number) ≡ 1
          has_moved =
              let low = stands x.number (omega (arith, second.exact (of_number x.number), bit_eq x.number x.number refl)) in
              rw (lt-ltb (where_is t₂ x.number) place_count low, ne_eqb (where_is t x.number) (where_is t₂ x.number) (λ e. other (e ∙ placed)))
      go (no n) =
          omega (
            arith,
            bit_ne x.number k n,
            named_once N ks t₁ [] (x ∷ []) t₂ ms second k (lt-ltb 0 (numbered k (circuits t₁)) (omega (arith, same_count k n, some))),
            same_moved,
          )
        where
          same_moved : bit (moved_to t₁ t₂ k) ≡ bit (moved_to t t₂ k)
          same_moved = rw (same_place k n some)

  -- Law: where one circuit is taken off and opened again, its own record and then those of the opening name each circuit that has moved, once
  -- and with both places
  pub kept_again : Kept N ks t [] [] t₂ (own_move t x p ∷ ms)
  kept_again =
      kept_from N ks t [] [] t₂ (own_move t x p ∷ ms) rules second.rules (λ w. omega (arith, first.exact w, second.exact w)) (
        record { was = lt-ltb 0 (numbered x.number (circuits t)) own_live; old = refl; now = sym placed },
        all_map _ _ names ms second.named,
      ) once

  -- Law: a host that carries out these records has the second table
  pub follows_again : relocated t (own_move t x p ∷ ms) ≡ t₂
  follows_again = relocates N ks t t₂ (own_move t x p ∷ ms) rules kept_again
