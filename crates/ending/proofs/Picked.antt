-- Those of some circuits whose number passes a test, and the lowest number of them. Assumes nothing.
use Prim.Native.Nat.{ℕ, ◌≤◌, ◌<◌}
use mathlib.Core.Path.{◌≡◌, refl, sym, ap, ◌∙◌}
use mathlib.Core.Logic.{◌↔◌}
use mathlib.Core.Bool.{Bool, true, false, true≢false}
use mathlib.Core.List.{List, [], ◌∷◌}
use native.Mathlib.Omega.{arith}
use lib.Dec.{ltb}
use borrow.Author.Tests.{ltb-true, ltb-false, lt-ltb}
use Rattle.basis.specs.Choice.{pick}
use Rattle.basis.specs.Count.{All}
use Rattle.basis.proofs.Bools.{bit_eq, fails, all_map}
use Rattle.basis.proofs.Weigh.{by_key}
use Rattle.lightpath.specs.declared.Circuit.{Circuit}
use Rattle.channels.specs.Channels.{Channels, circuits, numbered, live}
use Rattle.ending.specs.Ending.{Ending, ends, nobody, served, not_asked, those, lowest, lowest_of}
use Rattle.ending.specs.LowestLive.{LowestLive}

-- tests that agree on the number of each circuit pick the same
pub those_same : (f g : ℕ → Bool) (xs : List Circuit) → All (λ x. f x.number ≡ g x.number) xs → those f xs ≡ those g xs
those_same f g [] h = refl
those_same f g (x ∷ xs) h = rw (h.0, those_same f g xs h.1)

module _ (f : ℕ → Bool) where
  -- each that is picked passes, and is counted among all
  picked : (xs : List Circuit) → All (λ x. (f x.number ≡ true) × (0 < numbered x.number xs)) (those f xs)
  picked [] = tt
  picked (x ∷ xs) = go (f x.number) refl (all_map _ _ more (those f xs) (picked xs))
    where
      more : (y : Circuit) → (f y.number ≡ true) × (0 < numbered y.number xs) → (f y.number ≡ true) × (0 < numbered y.number (x ∷ xs))
      more y h = (h.0, omega (arith, h.1))

      go : (o : Bool) → f x.number ≡ o → All (λ y. (f y.number ≡ true) × (0 < numbered y.number (x ∷ xs))) (those f xs)
          → All (λ y. (f y.number ≡ true) × (0 < numbered y.number (x ∷ xs))) (pick o (x ∷ those f xs) (those f xs))
      go true e rest = ((e, omega (arith, bit_eq x.number x.number refl)), rest)
      go false e rest = rest

  -- what holds of all that are picked holds of each that passes
  passing : (P : Circuit → Type 0) (xs : List Circuit) → All P (those f xs) → All (λ x. f x.number ≡ true → P x) xs
  passing P [] h = tt
  passing P (x ∷ xs) h = go (f x.number) refl h (λ k. passing P xs k)
    where
      go : (o : Bool) → f x.number ≡ o → All P (pick o (x ∷ those f xs) (those f xs)) → (All P (those f xs) → All (λ x. f x.number ≡ true → P x) xs)
          → All (λ x. f x.number ≡ true → P x) (x ∷ xs)
      go true e h rest = (λ k. h.0, rest h.1)
      go false e h rest = (λ k. absurd (true≢false (sym k ∙ e)), rest h)

  -- none is picked where none passes
  none_picked : (xs : List Circuit) → All (λ x. f x.number ≡ false) xs → those f xs ≡ []
  none_picked [] h = refl
  none_picked (x ∷ xs) h = rw h.0 (none_picked xs h.1)

-- what holds of the number of each holds of the lowest
of_lowest : (P : ℕ → Type 0) (x : Circuit) (xs : List Circuit) → All (λ y. P y.number) (x ∷ xs) → P (lowest x xs)
of_lowest P x [] h = h.0
of_lowest P x (y ∷ ys) h = go (ltb (lowest y ys) x.number) (of_lowest P y ys h.1)
  where
    go : (o : Bool) → P (lowest y ys) → P (pick o (lowest y ys) x.number)
    go true k = k
    go false k = h.0

-- no number is below it
lowest_least : (x : Circuit) (xs : List Circuit) → All (λ y. lowest x xs ≤ y.number) (x ∷ xs)
lowest_least x [] = (omega arith, tt)
lowest_least x (y ∷ ys) = go (ltb (lowest y ys) x.number) refl (lowest_least y ys)
  where
    go : (o : Bool) → ltb (lowest y ys) x.number ≡ o → All (λ z. lowest y ys ≤ z.number) (y ∷ ys)
        → All (λ z. pick o (lowest y ys) x.number ≤ z.number) (x ∷ y ∷ ys)
    go true e h = (omega (arith, ltb-true (lowest y ys) x.number e), h)
    go false e h = (omega arith, all_map _ _ (λ z l. omega (arith, ltb-false (lowest y ys) x.number e)) (y ∷ ys) h)

module _ (f : ℕ → Bool) (t : Channels) where
  abbrev xs : List Circuit
  xs = circuits t

  -- a live number has a circuit
  there : (n : ℕ) → live t n ≡ true → 0 < numbered n xs
  there n h = ltb-true 0 (numbered n xs) h

  -- of two lowest neither is lower
  least_least : (n m : ℕ) → LowestLive f t n → LowestLive f t m → n ≤ m
  least_least n m a b = by_key (λ x. x.number) (λ k. f k ≡ true → n ≤ k) xs a.least m (there m b.alive) b.passes

  -- an answer names the lowest exactly, and nobody exactly where none passes
  abbrev pub Tells : Ending → Type 0
  Tells e = ((n : ℕ) → (e ≡ ends n) ↔ LowestLive f t n) × ((e ≡ nobody) ↔ All (λ x. f x.number ≡ false) xs)

  pub tells : Tells (lowest_of (those f xs))
  tells = go (those f xs) refl
    where
      number : Ending → ℕ
      number (ends n) = n
      number nobody = 0
      number served = 0
      number (not_asked r) = 0

      apart : (n : ℕ) → ends n ≡ nobody → ⊥
      apart n e = let z : ◌≡◌ {A = ℕ} 0 1 = cc in omega arith

      some : (x : Circuit) (ys : List Circuit) → those f xs ≡ x ∷ ys → LowestLive f t (lowest x ys)
      some x ys e =
          let h = rw e at (picked f xs) in
          record {
            alive = lt-ltb 0 (numbered (lowest x ys) xs) (of_lowest (λ k. 0 < numbered k xs) x ys (all_map _ _ (λ y k. k.1) (x ∷ ys) h));
            passes = of_lowest (λ k. f k ≡ true) x ys (all_map _ _ (λ y k. k.0) (x ∷ ys) h);
            least = passing f (λ y. lowest x ys ≤ y.number) xs (rw e (lowest_least x ys));
          }

      go : (l : List Circuit) → those f xs ≡ l → Tells (lowest_of l)
      go [] e = (λ n. (λ k. absurd (apart n (sym k)), λ h. absurd (true≢false (sym h.passes ∙ by_key (λ x. x.number) (λ k. f k ≡ false) xs none n (there n h.alive)))), (λ k. none, λ h. refl))
        where
          none : All (λ x. f x.number ≡ false) xs
          none = all_map _ _ (λ x h. sym (fails (f x.number) h)) xs (passing f (λ x. ⊥) xs (rw e tt))
      go (x ∷ ys) e = (λ n. (λ k. rw (← ap number k) (some x ys e), λ h. same n h), (λ k. absurd (apart _ k), λ h. absurd (filled (none_picked f xs h))))
        where
          same : (n : ℕ) → LowestLive f t n → ends (lowest x ys) ≡ ends n
          same n h = let k : lowest x ys ≡ n = omega (arith, least_least n (lowest x ys) h (some x ys e), least_least (lowest x ys) n (some x ys e) h) in rw k

          filled : those f xs ≡ [] → ⊥
          filled k = let z : ◌≡◌ {A = ℕ} 0 1 = cc in omega arith
