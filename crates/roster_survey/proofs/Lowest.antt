-- The pass over the entries that finds the one to join: the lowest place of those that pass a test, whatever their order, is the first
-- place that passes. `search (rules, finding)` finds its steps. Assumes nothing.
use Prim.Native.Nat.{ℕ, ◌+◌, ◌≤◌, ◌<◌}
use mathlib.Core.Path.{◌≡◌, refl, sym, ◌∙◌}
use mathlib.Core.Bool.{Bool, true, false, ◌&&◌, true≢false}
use mathlib.Core.List.{List}
use native.Mathlib.Decide.{dec_lt, ℕ_discrete}
use native.Mathlib.Omega.{arith}
use lib.Dec.{ltb}
use lib.ListN.{get_or}
use borrow.Author.Tests.{ltb-true, ltb-false}
use Rattle.basis.specs.Choice.{pick}
use Rattle.basis.specs.Search.{first_below}
use Rattle.basis.proofs.Search.{first_only, first_end}
use Rattle.limits.specs.Limits.{place_count}
use Rattle.lightpath.specs.declared.Circuit.{Circuit}
use Rattle.lit_words.specs.declared.Lit.{Lit}
use Rattle.roster_survey.specs.Pass.{Nearest, Entered, Least, joinable_at, place_at, nearer}

-- one of the first n positions passes and stands at place p
pub record Stands (g : ℕ → Bool) (k : ℕ → ℕ) (n p : ℕ) : Type 0 where
  pub position : ℕ
  pub within : position < n
  pub passes : g position ≡ true
  pub stands : k position ≡ p

module _ (g : ℕ → Bool) (k : ℕ → ℕ) (m : ℕ) where
  -- of no positions
  least_start : Least g k m 0 (record { place = m; position = 0 })
  least_start = record {
    most = omega arith;
    least = λ j l e. absurd (omega arith);
    within = λ l. absurd (omega arith);
    passes = λ l. absurd (omega arith);
    stands = λ l. absurd (omega arith);
  }

  -- of one more
  least_next : (i : ℕ) (v : Nearest) → Least g k m i v
      → Least g k m (i + 1) (pick (ltb (k i) v.place && g i) (record { place = k i; position = i }) v)
  least_next i v s = go (ltb (k i) v.place) (g i) refl refl
    where
      kept : (g i ≡ true → v.place ≤ k i) → Least g k m (i + 1) v
      kept h = record {
        most = s.most;
        least = λ j l e. at j l e (ℕ_discrete j i);
        within = λ l. omega (arith, s.within l);
        passes = s.passes;
        stands = s.stands;
      }
        where
          at : (j : ℕ) → j < i + 1 → g j ≡ true → Dec (j ≡ i) → v.place ≤ k j
          at j l e (yes d) = rw d (h (rw d at e))
          at j l e (no d) = s.least j (omega arith) e

      go : (a b : Bool) → ltb (k i) v.place ≡ a → g i ≡ b → Least g k m (i + 1) (pick (a && b) (record { place = k i; position = i }) v)
      go true true a b = record {
        most = omega (arith, s.most, ltb-true (k i) v.place a);
        least = λ j l e. here j l e (ℕ_discrete j i);
        within = λ l. omega arith;
        passes = λ l. b;
        stands = λ l. refl;
      }
        where
          here : (j : ℕ) → j < i + 1 → g j ≡ true → Dec (j ≡ i) → k i ≤ k j
          here j l e (yes d) = rw d (omega arith)
          here j l e (no d) = omega (arith, ltb-true (k i) v.place a, s.least j (omega arith) e)
      go true false a b = kept (λ e. absurd (true≢false (sym e ∙ b)))
      go false b a _ = kept (λ e. ltb-false (k i) v.place a)

  -- where the positions that pass stand at the places that pass, and at each of these one stands, it is the first such place
  pub least_first : (f : ℕ → Bool) (n : ℕ) (v : Nearest) → Least g k m n v
      → ((j : ℕ) → j < n → g j ≡ true → f (k j) ≡ true)
      → ((p : ℕ) → f p ≡ true → Stands g k n p)
      → v.place ≡ first_below m f
  least_first f n v s on onto = go (dec_lt v.place m)
    where
      before : (q : ℕ) → q < v.place → f q ≡ false
      before q l = no_hit (f q) refl
        where
          no_hit : (b : Bool) → f q ≡ b → b ≡ false
          no_hit true e = let h = onto q e in absurd (omega (arith, s.least h.position h.within h.passes, h.stands))
          no_hit false e = refl

      go : Dec (v.place < m) → v.place ≡ first_below m f
      go (yes l) = sym (first_only m f v.place l (rw (s.stands l) at (on v.position (s.within l) (s.passes l))) before)
      go (no d) =
          let e : v.place ≡ m = omega (arith, s.most) in
          e ∙ sym (first_end m f (λ q l. before q (omega arith)))

-- the entry to join of those before i
pub record Finding (N m : ℕ) (keys rests : List ℕ) (count : ℕ) (c : Circuit) (shared : Lit) (i : ℕ) (v : Nearest) : Type 0 where
  pub entered : Entered keys rests count
  pub within : i ≤ count
  pub so_far : Least (joinable_at N c shared keys rests) (place_at rests) m i v

pub find_start : (N m : ℕ) (keys rests : List ℕ) (count : ℕ) (c : Circuit) (shared : Lit) → Entered keys rests count
    → Finding N m keys rests count c shared 0 (record { place = m; position = 0 })
find_start N m keys rests count c shared h = record { entered = h; within = omega arith; so_far = least_start _ _ m }

module _ (N m : ℕ) (keys rests : List ℕ) (count : ℕ) (c : Circuit) (shared : Lit) (i : ℕ) (v : Nearest)
    (s : Finding N m keys rests count c shared i v) where
  pub find_below : i < count → place_at rests i < place_count
  find_below h = s.entered.below i h

  pub find_next : i < count → (r : Nearest) → r ≡ nearer N c shared (get_or keys i 0) (get_or rests i 0) i v
      → Finding N m keys rests count c shared (i + 1) r
  find_next h r e = rw e (record { entered = s.entered; within = omega arith; so_far = least_next _ _ m i v s.so_far })

  pub find_end : count ≤ i → Least (joinable_at N c shared keys rests) (place_at rests) m count v
  find_end h = let e : i ≡ count = omega (arith, s.within) in rw e at s.so_far

pub ruleset finding = (find_start, find_below, find_next, find_end)
