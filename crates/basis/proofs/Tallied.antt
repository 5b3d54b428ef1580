-- Counting by key in an array: none, then one element more. Assumes nothing.
use Prim.Native.Nat.{ℕ, ◌+◌, ◌≤◌, ◌<◌}
use mathlib.Core.Path.{◌≡◌, refl, sym, ◌∙◌}
use mathlib.Core.List.{List, [], ◌∷◌, ◌++◌}
use native.Mathlib.Decide.{ℕ_discrete}
use native.Mathlib.Omega.{arith}
use lib.Dec.{eqb}
use lib.ListN.{length, get_or, set, replicate, length-set, length-replicate, get_or-replicate}
use lib.Seq.{get_or-set_same, get_or-set_other}
use Rattle.basis.specs.Choice.{bit}
use Rattle.basis.specs.Count.{tally}
use Rattle.basis.specs.Tallied.{Tallied}
use Rattle.basis.proofs.Bools.{bit_eq, bit_ne}
use Rattle.basis.proofs.Weigh.{weigh_append, weigh_most, bit_most}

-- no more elements have a key than there are
pub tally_most : {A : Type 0} (key : A → ℕ) (k : ℕ) (xs : List A) → tally key k xs ≤ length xs
tally_most key k xs = weigh_most _ (λ x. bit_most (eqb (key x) k)) xs

module _ {A : Type 0} (key : A → ℕ) (room : ℕ) where
  -- none is counted
  pub tallied_start : Tallied key [] room (replicate room 0)
  tallied_start = record {
    at = λ k l. get_or-replicate {A = ℕ} room k 0 0 l;
    long = length-replicate {A = ℕ} room 0;
  }

  module _ (xs : List A) (counts : List ℕ) (h : Tallied key xs room counts) where
    -- a count is at most the number of elements
    pub tallied_low : (k : ℕ) → k < room → get_or counts k 0 ≤ length xs
    tallied_low k l = omega (arith, h.at k l, tally_most key k xs)

    -- one element more
    pub tallied_next : (x : A) → key x < room → Tallied key (xs ++ (x ∷ [])) room (set counts (key x) (get_or counts (key x) 0 + 1))
    tallied_next x m = record {
      at = λ k q. goes k q (ℕ_discrete k (key x));
      long = length-set counts (key x) more ∙ h.long;
    }
      where
        more : ℕ
        more = get_or counts (key x) 0 + 1

        one_more : (k : ℕ) → tally key k (xs ++ (x ∷ [])) ≡ tally key k xs + bit (eqb (key x) k)
        one_more k = omega (arith, weigh_append (λ y. bit (eqb (key y) k)) xs (x ∷ []))

        goes : (k : ℕ) → k < room → Dec (k ≡ key x) → get_or (set counts (key x) more) k 0 ≡ tally key k (xs ++ (x ∷ []))
        goes k q (yes s) =
            rw (s, get_or-set_same counts (key x) more 0 (omega (arith, h.long)))
            (omega (arith, one_more (key x), h.at (key x) m, bit_eq (key x) (key x) refl))
        goes k q (no s) =
            rw (get_or-set_other counts (key x) k more 0 s) (omega (arith, one_more k, h.at k q, bit_ne (key x) k (λ w. s (sym w))))
