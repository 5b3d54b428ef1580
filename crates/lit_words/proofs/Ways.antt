-- The places of one direction in the words: their bits, and the lowest unlit one of them. Assumes nothing.
use Prim.Native.Nat.{ℕ, zero, suc, ◌+◌, ◌-◌, ◌*◌, ◌/◌, ◌%◌, ◌^◌, ◌≤◌, ◌<◌, min, max}
use mathlib.Core.Path.{◌≡◌, refl, ap, ◌∙◌}
use mathlib.Core.Bool.{Bool, true, false, ◌&&◌, ◌||◌, not}
use native.Mathlib.Nat.{zero-add}
use native.Mathlib.Decide.{dec_lt}
use native.Mathlib.Omega.{arith}
use lib.Bits.{bit_or, or_step, or_shr}
use lib.Dec.{eqb, ltb}
use borrow.Author.Tests.{ltb-true, ltb-false, eq-eqb, ne_eqb}
use Rattle.basis.specs.Choice.{pick}
use Rattle.basis.specs.Search.{first_below}
use Rattle.basis.proofs.Below.{first_same, first_within, none_within}
use Rattle.limits.specs.Limits.{place_count}
use Rattle.lightpath.specs.Place.{direction_of, same_direction, other_way}
use Rattle.lightpath.specs.declared.Direction.{Direction}
use Rattle.lightpath.specs.declared.Direction.TheVariants.{Clockwise as clockwise, Counterclockwise as counterclockwise}
use Rattle.lit_words.specs.Lit.{Lit, bit_of, word, lit_bit}
use Rattle.lit_words.specs.Unlit.{unlit_by, unlit_in, places_of, with_way}
use Rattle.lit_words.proofs.Bits.{word_bit}

-- the places of a direction as a number
pub clockwise_places : (d : Direction) → d ≡ clockwise → 6148914691236517205 ≡ places_of d
unfolding places_of word
clockwise_places d e = rw e refl

pub counterclockwise_places : (d : Direction) → d ≡ counterclockwise → 12297829382473034410 ≡ places_of d
unfolding places_of word
counterclockwise_places d e = rw e refl

-- a digit of an `or` stands where that of one of the two does
digit_or : (x y z : ℕ) → x < 2 → y < 2 → eqb ((z * 2 + max x y) % 2) 1 ≡ (eqb x 1 || eqb y 1)
digit_or zero zero z h k = ne_eqb ((z * 2 + 0) % 2) 1 (λ e. omega arith)
digit_or zero (suc zero) z h k = eq-eqb ((z * 2 + 1) % 2) 1 (omega arith)
digit_or (suc zero) zero z h k = eq-eqb ((z * 2 + 1) % 2) 1 (omega arith)
digit_or (suc zero) (suc zero) z h k = eq-eqb ((z * 2 + 1) % 2) 1 (omega arith)
digit_or zero (suc (suc y)) z h k = absurd (omega arith)
digit_or (suc zero) (suc (suc y)) z h k = absurd (omega arith)
digit_or (suc (suc x)) y z h k = absurd (omega arith)

bit_or_lem : (a b k : ℕ) → bit_of (bit_or a b) k ≡ (bit_of a k || bit_of b k)
unfolding bit_of
bit_or_lem a b k =
    ap (λ (x : ℕ). eqb (x % 2) 1) (or_shr a b k ∙ or_step (a / 2 ^ k) (b / 2 ^ k))
    ∙ digit_or (a / 2 ^ k % 2) (b / 2 ^ k % 2) (bit_or (a / 2 ^ k / 2) (b / 2 ^ k / 2)) (omega arith) (omega arith)

-- a place p of the words, and place 64 + p, are of a direction where bit p of that direction's places stands
way_low : (d : Direction) (p : ℕ) → p < 64 → bit_of (places_of d) p ≡ same_direction (direction_of p) d
unfolding places_of
way_low d p h = word_bit (λ q. same_direction (direction_of q) d) 64 0 p h ∙ rw zero-add

way_high : (d : Direction) (p : ℕ) → 64 ≤ p → p < place_count → bit_of (places_of d) (p - 64) ≡ same_direction (direction_of p) d
way_high d p l h =
    let e : (p - 64) % 2 ≡ p % 2 = omega arith in
    way_low d (p - 64) (omega arith) ∙ rw e

-- with all places of a direction, a place is lit where it was or is of that direction
way_lit : (l : Lit) (d : Direction) (p : ℕ) → p < place_count → lit_bit (with_way l d) p ≡ (lit_bit l p || same_direction (direction_of p) d)
unfolding lit_bit
way_lit l d p h = go (ltb p 64) refl
  where
    go : (b : Bool) → ltb p 64 ≡ b → pick b (bit_of (bit_or l.low (places_of d)) p) (bit_of (bit_or l.high (places_of d)) (p - 64))
        ≡ (pick b (bit_of l.low p) (bit_of l.high (p - 64)) || same_direction (direction_of p) d)
    go true e = bit_or_lem l.low (places_of d) p ∙ rw (way_low d p (ltb-true p 64 e))
    go false e = bit_or_lem l.high (places_of d) (p - 64) ∙ rw (way_high d p (ltb-false p 64 e) h)

-- so a place that is not lit with those of the other direction is an unlit one of this direction
way_unlit : (a : Bool) (e d : Direction) → not (a || same_direction e (other_way d)) ≡ (not a && same_direction e d)
way_unlit true e d = refl
way_unlit false clockwise clockwise = refl
way_unlit false clockwise counterclockwise = refl
way_unlit false counterclockwise clockwise = refl
way_unlit false counterclockwise counterclockwise = refl

module _ (l w : Lit) (d e : Direction) (m u : ℕ) (other : e ≡ other_way d) (all : w ≡ with_way l e) (is : u ≡ unlit_by w) where
  -- the lowest place that is unlit with those of the other direction is the lowest unlit one of this direction
  lowest : u ≡ first_below place_count (λ p. not (lit_bit l p) && same_direction (direction_of p) d)
  unfolding unlit_by
  lowest =
      is ∙ first_same place_count (λ p. not (lit_bit w p)) (λ p. not (lit_bit l p) && same_direction (direction_of p) d)
      (λ p h. rw (all, other, way_lit l (other_way d) p h) (way_unlit (lit_bit l p) (direction_of p) d))

  -- Law: the lowest place that is unlit with those of the other direction lit is the lowest unlit one of a direction, where it is below the
  -- limit
  pub lowest_within : m ≤ place_count → u < m → u ≡ unlit_in l d m
  unfolding unlit_in
  lowest_within h k = first_within m place_count (λ p. not (lit_bit l p) && same_direction (direction_of p) d) u lowest h k

  -- Law: no place of a direction below the limit is unlit where that place is not below it
  pub lowest_none : m ≤ u → m ≡ unlit_in l d m
  unfolding unlit_in
  lowest_none k = none_within m place_count (λ p. not (lit_bit l p) && same_direction (direction_of p) d) u lowest k

  -- so that place, or the limit where it is not below it, is the one
  pub lowest_below : (r : ℕ) → m ≤ place_count → r ≡ min u m → r ≡ unlit_in l d m
  lowest_below r h k = go (dec_lt u m)
    where
      go : Dec (u < m) → r ≡ unlit_in l d m
      go (yes b) = let e : r ≡ u = omega arith in e ∙ lowest_within h b
      go (no b) = let e : r ≡ m = omega arith in e ∙ lowest_none (omega arith)
