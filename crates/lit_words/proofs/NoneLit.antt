-- No place from a limit on is lit: what that says of each place, and back. Assumes nothing.
use Prim.Native.Nat.{ℕ, zero, suc, ◌+◌, ◌-◌, ◌≤◌, ◌<◌}
use mathlib.Core.Path.{◌≡◌, refl}
use mathlib.Core.Bool.{Bool, true, false, ◌||◌, not}
use native.Mathlib.Decide.{ℕ_discrete}
use native.Mathlib.Omega.{arith}
use lib.Dec.{ltb}
use borrow.Author.Tests.{le-ltb, ltb-false, not-true}
use Rattle.std.specs.List.{list_all, range_with_len}
use Rattle.basis.proofs.Bools.{and_left, and_right, and_both, same_test}
use Rattle.basis.proofs.Search.{every_at, at_every, every_same}
use Rattle.limits.specs.Limits.{place_count}
use Rattle.lit_words.specs.Lit.{none_lit_from}

-- of some numbers that follow each other all pass a test where each does
range_at : (f : ℕ → Bool) (a n : ℕ) → list_all f (range_with_len a n) ≡ true → (p : ℕ) → a ≤ p → p < a + n → f p ≡ true
range_at f a zero h p l m = absurd (omega arith)
range_at f a (suc n) h p l m = go (ℕ_discrete p a) (λ k. range_at f (a + 1) n (and_right (f a) _ h) p k (omega arith))
  where
    go : Dec (p ≡ a) → (a + 1 ≤ p → f p ≡ true) → f p ≡ true
    go (yes e) rest = rw e (and_left (f a) _ h)
    go (no e) rest = rest (omega arith)

at_range : (f : ℕ → Bool) (a n : ℕ) → ((p : ℕ) → a ≤ p → p < a + n → f p ≡ true) → list_all f (range_with_len a n) ≡ true
at_range f a zero h = refl
at_range f a (suc n) h = and_both (f a) _ (h a (omega arith) (omega arith)) (at_range f (a + 1) n (λ p l m. h p (omega arith) (omega arith)))

module _ (limit : ℕ) (lit : ℕ → Bool) where
  -- a place from the limit on is then unlit
  pub none_lit_at : none_lit_from limit lit ≡ true → (p : ℕ) → p < place_count → limit ≤ p → lit p ≡ false
  unfolding none_lit_from
  none_lit_at h p l m = not-true (lit p) (rw (le-ltb p limit m) at (every_at place_count (λ p. ltb p limit || not (lit p)) h p l))

  -- and where each is, none is lit
  pub at_none_lit : ((p : ℕ) → p < place_count → limit ≤ p → lit p ≡ false) → none_lit_from limit lit ≡ true
  unfolding none_lit_from
  at_none_lit h = at_every place_count (λ p. ltb p limit || not (lit p)) (λ p l. go p l (ltb p limit) refl)
    where
      go : (p : ℕ) → p < place_count → (o : Bool) → ltb p limit ≡ o → (ltb p limit || not (lit p)) ≡ true
      go p l true e = rw e
      go p l false e = rw (e, h p l (ltb-false p limit e))

  -- so that is what the places from the limit on say
  pub none_in_range : list_all (λ p. not (lit p)) (range_with_len limit (place_count - limit)) ≡ none_lit_from limit lit
  none_in_range =
      same_test _ _
      (λ h. at_none_lit (λ p l m. not-true (lit p) (range_at (λ p. not (lit p)) limit (place_count - limit) h p m (omega arith))))
      (λ h. at_range (λ p. not (lit p)) limit (place_count - limit) (λ p l m. rw (none_lit_at h p (omega arith) l)))

-- places that are lit alike are judged alike
pub none_lit_same : (limit : ℕ) (f g : ℕ → Bool) → ((p : ℕ) → p < place_count → f p ≡ g p) → none_lit_from limit f ≡ none_lit_from limit g
unfolding none_lit_from
none_lit_same limit f g h = every_same place_count (λ p. ltb p limit || not (f p)) (λ p. ltb p limit || not (g p)) (λ p l. rw (h p l))
