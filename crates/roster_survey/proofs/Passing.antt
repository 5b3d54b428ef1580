-- The pass over the entries that counts them and lights their places. `search (rules, entry)` and `search (rules, passing)` find its steps.
-- Assumes nothing.
use Prim.Native.Nat.{ℕ, zero, suc, ◌+◌, ◌≤◌, ◌<◌}
use mathlib.Core.Path.{◌≡◌, refl, ap, ◌∙◌}
use mathlib.Core.Bool.{Bool, true, false, ◌&&◌, ◌||◌}
use mathlib.Core.List.{List, [], ◌∷◌, ◌++◌}
use native.Mathlib.Numerals.{add-one}
use native.Mathlib.Omega.{arith}
use mir.Syntax.{w64}
use mir.Val.{Fits, bool_byte}
use lib.Dec.{eqb, ltb}
use lib.ListN.{length, get_or, take, length-append}
use lib.Seq.{take-suc, length-take-le}
use borrow.Author.Tests.{lt-ltb}
use Rattle.basis.specs.Choice.{bit}
use Rattle.basis.specs.Count.{weigh}
use Rattle.basis.proofs.Bools.{byte_bit}
use Rattle.basis.proofs.Weigh.{weigh_append, weigh_most, bit_most}
use Rattle.limits.specs.Limits.{most_circuits}
use Rattle.lightpath.specs.declared.Circuit.{Circuit}
use Rattle.lit_words.specs.Lit.{words_of}
use Rattle.lit_words.specs.Sets.{either_of, both_of}
use Rattle.lit_words.specs.With.{RoomFor}
use Rattle.lit_words.specs.declared.Lit.{Lit}
use Rattle.lit_words.proofs.Added.{word_either, word_both, words_none, one_room, words_one}
use Rattle.roster_survey.specs.Pass.{Pass, number_in, place_in, destination_in, stand_at, lit_in, shared_in, pass_of, one_place, pass_with, Takes, Entered}

-- a count has room for it
pub entry_fits : (n : ℕ) (x : Bool) → n < most_circuits → Fits w64 (n + bool_byte x)
entry_fits n x h = record { fits = omega (arith, byte_bit x, bit_most x) }

module _ (c : Circuit) (v : Pass) (key rest : ℕ) (t : Takes v rest) where
  pub entry_room_lem : RoomFor (record { low = 0; high = 0 }) (place_in rest)
  entry_room_lem = one_room (place_in rest) t.place

  -- it is seen
  pub entry_seen : (here l b s : Lit) → here ≡ one_place (place_in rest) → l ≡ either_of v.lit here → b ≡ both_of v.lit here → s ≡ either_of v.shared b
      → record {
        numbered = v.numbered + bool_byte (eqb (number_in key) c.number);
        received = v.received + bool_byte (eqb (destination_in rest) c.destination);
        lit = l;
        shared = s;
      } ≡ pass_with c key rest v
  entry_seen here l b s e f g k =
      rw (f, k, g, e, byte_bit (eqb (number_in key) c.number), byte_bit (eqb (destination_in rest) c.destination))

pub ruleset entry = (entry_fits, entry_room_lem, entry_seen)

-- more than none stand with one more where some did or this one does
more_lit : (n : ℕ) (b : Bool) → (ltb 0 n || b) ≡ ltb 0 (n + bit b)
more_lit zero true = refl
more_lit zero false = refl
more_lit (suc n) b = rw (lt-ltb 0 (suc n) (omega arith), lt-ltb 0 (suc n + bit b) (omega arith))

-- and more than one where more did, or some did and this one does
more_shared : (n : ℕ) (b : Bool) → (ltb 1 n || (ltb 0 n && b)) ≡ ltb 1 (n + bit b)
more_shared zero b = few b
  where
    few : (b : Bool) → (ltb 1 0 || (ltb 0 0 && b)) ≡ ltb 1 (0 + bit b)
    few true = refl
    few false = refl
more_shared (suc zero) true = refl
more_shared (suc zero) false = refl
more_shared (suc (suc n)) b = rw (lt-ltb 1 (suc (suc n)) (omega arith), lt-ltb 1 (suc (suc n) + bit b) (omega arith))

-- what was seen of the entries before i
pub record Passing (keys rests : List ℕ) (count : ℕ) (c : Circuit) (i : ℕ) (v : Pass) : Type 0 where
  pub entered : Entered keys rests count
  pub within : i ≤ count
  pub is : v ≡ pass_of c (take i keys) (take i rests)

pub pass_start : (keys rests : List ℕ) (count : ℕ) (c : Circuit) → Entered keys rests count
    → Passing keys rests count c 0 (record { numbered = 0; received = 0; lit = record { low = 0; high = 0 }; shared = record { low = 0; high = 0 } })
pass_start keys rests count c h = record { entered = h; within = omega arith; is = rw words_none }

module _ (keys rests : List ℕ) (count : ℕ) (c : Circuit) (i : ℕ) (v : Pass) (s : Passing keys rests count c i v) where
  pub pass_end : count ≤ i → v ≡ pass_of c (take count keys) (take count rests)
  pass_end h = let e : i ≡ count = omega (arith, s.within) in rw e at s.is

  module _ (h : i < count) where
    abbrev key : ℕ
    key = get_or keys i 0

    abbrev rest : ℕ
    rest = get_or rests i 0

    -- there is room for one more
    pub pass_takes : Takes v rest
    pass_takes = record {
      place = s.entered.below i h;
      numbered = omega (arith, ap (λ (w : Pass). w.numbered) s.is, few keys number_in c.number s.entered.keyed, s.entered.few);
      received = omega (arith, ap (λ (w : Pass). w.received) s.is, few rests destination_in c.destination s.entered.rested, s.entered.few);
    }
      where
        few : (l : List ℕ) (f : ℕ → ℕ) (k : ℕ) → count ≤ length l → weigh (λ x. bit (eqb (f x) k)) (take i l) ≤ i
        few l f k m = omega (arith, weigh_most (λ x. bit (eqb (f x) k)) (λ x. bit_most (eqb (f x) k)) (take i l), length-take-le i l (omega arith))

    -- and it is seen too
    pub pass_next : (r : Pass) → r ≡ pass_with c key rest v → Passing keys rests count c (i + 1) r
    pass_next r e = record { entered = s.entered; within = omega arith; is = e ∙ (rw s.is (rw (numbers, destinations, lit, shared))) }
      where
        next : (w : ℕ → ℕ) (l : List ℕ) → count ≤ length l → weigh w (take i l) + w (get_or l i 0) ≡ weigh w (take (i + 1) l)
        next w l m = rw (add-one, take-suc l i 0 (omega arith)) (omega (arith, weigh_append w (take i l) (get_or l i 0 ∷ [])))

        numbers : weigh (λ x. bit (eqb (number_in x) c.number)) (take i keys) + bit (eqb (number_in key) c.number)
            ≡ weigh (λ x. bit (eqb (number_in x) c.number)) (take (i + 1) keys)
        numbers = next (λ x. bit (eqb (number_in x) c.number)) keys s.entered.keyed

        destinations : weigh (λ x. bit (eqb (destination_in x) c.destination)) (take i rests) + bit (eqb (destination_in rest) c.destination)
            ≡ weigh (λ x. bit (eqb (destination_in x) c.destination)) (take (i + 1) rests)
        destinations = next (λ x. bit (eqb (destination_in x) c.destination)) rests s.entered.rested

        stand : (p : ℕ) → stand_at (take i rests) p + bit (eqb (place_in rest) p) ≡ stand_at (take (i + 1) rests) p
        stand p = next (λ x. bit (eqb (place_in x) p)) rests s.entered.rested

        here : ℕ → Bool
        here p = eqb (place_in rest) p

        one : one_place (place_in rest) ≡ words_of here
        one = words_one (place_in rest) (s.entered.below i h)

        lit : either_of (words_of (lit_in (take i rests))) (one_place (place_in rest)) ≡ words_of (lit_in (take (i + 1) rests))
        lit =
            rw (one, word_either (lit_in (take i rests)) here 64 0, word_either (lit_in (take i rests)) here 64 64)
            (λ j. words_of (λ p. (more_lit (stand_at (take i rests) p) (here p) ∙ ap (λ (n : ℕ). ltb 0 n) (stand p)) j))

        shared : either_of (words_of (shared_in (take i rests))) (both_of (words_of (lit_in (take i rests))) (one_place (place_in rest)))
            ≡ words_of (shared_in (take (i + 1) rests))
        shared =
            rw (
              one,
              word_both (lit_in (take i rests)) here 64 0,
              word_both (lit_in (take i rests)) here 64 64,
              word_either (shared_in (take i rests)) (λ p. lit_in (take i rests) p && here p) 64 0,
              word_either (shared_in (take i rests)) (λ p. lit_in (take i rests) p && here p) 64 64,
            )
            (λ j. words_of (λ p. (more_shared (stand_at (take i rests) p) (here p) ∙ ap (λ (n : ℕ). ltb 1 n) (stand p)) j))

-- after one more was taken from a list
pub pass_count : {A : Type 0} (keys rests : List ℕ) (count : ℕ) (c : Circuit) (ys : List A) (y : A) (v : Pass) → Passing keys rests count c (length ys + 1) v → Passing keys rests count c (length (ys ++ (y ∷ []))) v
pass_count keys rests count c ys y v h = rw length-append h

pub ruleset passing = (pass_start, pass_takes, pass_next, pass_end, pass_count)
