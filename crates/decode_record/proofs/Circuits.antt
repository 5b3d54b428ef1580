-- Reading an optional field and a circuit at a position. Each law takes what the calls ensured and what the branches tested as they
-- stand in the record of a need, so that `search` finds it. Assumes nothing.
use Prim.Native.Nat.{ℕ, suc, ◌+◌, ◌-◌, ◌^◌, ◌≤◌, ◌<◌}
use mathlib.Core.Path.{◌≡◌, refl, ap, ◌∙◌}
use mathlib.Core.Bool.{Bool, true, false, not}
use mathlib.Core.List.{List, [], ◌∷◌}
use native.Mathlib.Nat.{zero-lt-suc, one-le-pow}
use native.Mathlib.Omega.{arith}
use lib.ListN.{length, get_or, take, drop, length-drop}
use lib.Seq.{drop-cons, drop-drop, length-take-le}
use borrow.Author.Tests.{le-leb, lt-leb, eq-eqb, ne_eqb, not-true, not-false}
use Rattle.lightpath.specs.declared.Circuit.{Circuit}
use Rattle.refusals.specs.declared.Refusal.{Refusal}
use Rattle.refusals.specs.declared.Refusal.TheVariants.{CutShort, BadField}
use Rattle.form.specs.Bytes.{number_in}
use Rattle.form.specs.Form.{present}
use Rattle.form.specs.Reader.{got, fault, and_then, give, ◌unless◌}
use Rattle.form.specs.Reading.{read_optional, read_circuit}

-- one more byte
pub byte_at : (b : List ℕ) (i j : ℕ) → i < length b → i + 1 ≡ j → drop i b ≡ get_or b i 0 ∷ drop j b
byte_at b i j h e = let g : suc i ≡ j = omega arith in drop-cons b i 0 h ∙ ap (λ (k : ℕ). get_or b i 0 ∷ drop k b) g

-- an optional field: not there, cut short, 0, or read
module _ (width : ℕ) (b : List ℕ) (i : ℕ) (m : Bool) where
  pub optional_none : not m ≡ true → read_optional width m (drop i b) ≡ got 0 (drop i b)
  unfolding read_optional
  optional_none e = rw (not-true m e)

  pub zero_small : 0 < 256 ^ width
  zero_small = one-le-pow width 256 (zero-lt-suc 255)

  module _ (e : not m ≡ false) (l : i ≤ length b) where
    pub optional_cut : length b - i < width → read_optional width m (drop i b) ≡ fault CutShort
    unfolding read_optional
    optional_cut h = rw (not-false m e, lt-leb width (length (drop i b)) (simp length-drop h))

    module _ (h : width ≤ length b - i) (v : ℕ) (g : (v ≡ number_in (take (i + width - i) (drop i b))) × (v < 256 ^ length (take (i + width - i) (drop i b)))) where
      as_wide : i + width - i ≡ width
      as_wide = omega arith

      there : read_optional width m (drop i b) ≡ and_then ((BadField unless present v) (drop (i + width) b)) (λ u. give v)
      unfolding read_optional
      there =
          let k : v ≡ number_in (take width (drop i b)) = rw as_wide at g.0 in
          rw (not-false m e, le-leb width (length (drop i b)) (simp length-drop h), drop-drop width i b, k)

      pub optional_zero : v ≡ 0 → read_optional width m (drop i b) ≡ fault BadField
      optional_zero z = there ∙ rw (eq-eqb v 0 z)

      pub optional_got : (v ≡ 0 → ⊥) → read_optional width m (drop i b) ≡ got v (drop (i + width) b)
      optional_got z = there ∙ rw (ne_eqb v 0 z)

      pub optional_small : v < 256 ^ width
      optional_small = rw (length-take-le width (drop i b) (simp length-drop h)) at (rw as_wide at g.1)

pub ruleset optional_rules = (optional_none, zero_small, optional_cut, optional_zero, optional_got, optional_small)

-- a circuit of which six bytes are not there is cut short
short : (m k : Bool) (s : List ℕ) → length s < 6 → read_circuit m k s ≡ fault CutShort
unfolding read_circuit
short m k [] h = refl
short m k (x0 ∷ []) h = refl
short m k (x0 ∷ x1 ∷ []) h = refl
short m k (x0 ∷ x1 ∷ x2 ∷ []) h = refl
short m k (x0 ∷ x1 ∷ x2 ∷ x3 ∷ []) h = refl
short m k (x0 ∷ x1 ∷ x2 ∷ x3 ∷ x4 ∷ []) h = refl
short m k (x0 ∷ x1 ∷ x2 ∷ x3 ∷ x4 ∷ x5 ∷ s) h = absurd (omega arith)

-- the circuit of number n whose nodes stand after four bytes at i, with a remark and an account
abbrev pub circuit_with : List ℕ → ℕ → ℕ → ℕ → ℕ → Circuit
circuit_with b i n r x = record { number = n; source = get_or b (i + 4) 0; destination = get_or b (i + 4 + 1) 0; remark = r; account = x }

-- a circuit: cut short, refused by its remark or its account, or read
module _ (b : List ℕ) (i : ℕ) (m k : Bool) (l : i ≤ length b) where
  pub circuit_cut : length b - i < 6 → read_circuit m k (drop i b) ≡ fault CutShort
  circuit_cut h = short m k (drop i b) (simp length-drop (omega arith))

  module _ (h : 6 ≤ length b - i) (n : ℕ) (e : n ≡ number_in (take (i + 4 - i) (drop i b))) where
    begun : read_circuit m k (drop i b) ≡ and_then (read_optional 2 m (drop (i + 4 + 2) b)) (λ r s. and_then (read_optional 4 k s) (λ x. give (circuit_with b i n r x)))
    unfolding read_circuit
    begun =
        let w : i + 4 - i ≡ 4 = omega arith in
        let v : n ≡ number_in (take 4 (drop i b)) = rw w at e in
        rw (
          le-leb 4 (length (drop i b)) (simp length-drop (omega arith)),
          drop-drop 4 i b,
          byte_at b (i + 4) (i + 4 + 1) (omega arith) refl,
          byte_at b (i + 4 + 1) (i + 4 + 2) (omega arith) (omega arith),
          v,
        )

    pub remark_fault : (r : Refusal) → read_optional 2 m (drop (i + 4 + 2) b) ≡ fault r → read_circuit m k (drop i b) ≡ fault r
    remark_fault r g = begun ∙ rw g

    -- with its remark, up to position j
    module _ (r j : ℕ) (g : read_optional 2 m (drop (i + 4 + 2) b) ≡ got r (drop j b)) where
      remarked : read_circuit m k (drop i b) ≡ and_then (read_optional 4 k (drop j b)) (λ x. give (circuit_with b i n r x))
      remarked = begun ∙ rw g

      pub account_fault : (y : Refusal) → read_optional 4 k (drop j b) ≡ fault y → read_circuit m k (drop i b) ≡ fault y
      account_fault y z = remarked ∙ rw z

      pub circuit_got : (x t : ℕ) → read_optional 4 k (drop j b) ≡ got x (drop t b) → read_circuit m k (drop i b) ≡ got (circuit_with b i n r x) (drop t b)
      circuit_got x t z = remarked ∙ rw z
