-- Numbers read byte by byte, from the highest down. Assumes nothing.
use Prim.Native.Nat.{ℕ, ◌+◌, ◌*◌, ◌^◌, ◌≤◌, ◌<◌}
use mathlib.Core.Path.{◌≡◌, refl, sym, ◌∙◌}
use mathlib.Core.List.{List}
use native.Mathlib.Nat.{zero-lt-suc, pow-suc, pow-le-pow_right}
use native.Mathlib.Numerals.{add-one}
use native.Mathlib.Omega.{arith}
use lib.ListN.{length, get_or, drop, drop_of_length-le}
use lib.Seq.{drop-cons}
use mir.Syntax.{w32}
use mir.Val.{Fits}
use Rattle.form.specs.Bytes.{number_from, number_in}
use Rattle.byte_numbers.specs.Widths.{most_bytes}

-- of some bytes the first i make the number v
pub record Numbering (b : List ℕ) (v i : ℕ) : Type 0 where
  pub is : number_in b ≡ number_from v (drop i b)
  pub small : v < 256 ^ i

pub numbering_none : (b : List ℕ) → Numbering b 0 0
numbering_none b = record { is = refl; small = omega arith }

module _ (b : List ℕ) (v i : ℕ) (q : Numbering b v i) where
  pub numbering_room : i < length b → length b ≤ most_bytes → v < 2 ^ 56
  numbering_room h few = let m : i ≤ 3 = omega arith in omega (arith, q.small, pow-le-pow_right {n = 256} (zero-lt-suc 255) m)

  pub numbering_next : (r : ℕ) → i < length b → (r ≡ v * 256 + get_or b i 0) × (get_or b i 0 < 256) → Numbering b r (i + 1)
  unfolding number_from
  numbering_next r h e = record { is = q.is ∙ rw (drop-cons b i 0 h, add-one i, e.0); small = rw add-one (omega (arith, q.small, pow-suc 256 i, e.0, e.1)) }

  module _ (h : length b ≤ i) (l : i ≤ length b) where
    pub numbering_fits : length b ≤ most_bytes → Fits w32 v
    numbering_fits few = let m : i ≤ most_bytes = omega arith in omega (arith, q.small, pow-le-pow_right {n = 256} (zero-lt-suc 255) m)

    pub numbering_all : v ≡ number_in b
    unfolding number_from
    numbering_all = sym (q.is ∙ rw (drop_of_length-le b h))

    pub numbering_small : v < 256 ^ length b
    numbering_small = let e : i ≡ length b = omega arith in rw e at q.small

pub ruleset numbering = (numbering_none, numbering_room, numbering_next, numbering_fits, numbering_all, numbering_small)
