-- The candidates of step 3, and the pair that it finds among them. Assumes nothing.
use Prim.Native.Nat.{ℕ, ◌≤◌, ◌<◌}
use mathlib.Core.Path.{◌≡◌, refl, sym, ap, ◌∙◌}
use mathlib.Core.Logic.{◌⊎◌, inl, inr}
use mathlib.Core.Bool.{true, true≢false}
use mathlib.Core.List.{[], ◌∷◌}
use native.Mathlib.Omega.{arith}
use lib.Dec.{ltb}
use lib.ListN.{length}
use Rattle.basis.specs.Count.{All}
use Rattle.basis.specs.Search.{pairs_of}
use Rattle.basis.proofs.Bools.{and_right, all_join, all_map}
use Rattle.basis.proofs.Search.{all_at}
use Rattle.basis.proofs.Pairs.{pairs_all}
use Rattle.lightpath.specs.declared.Circuit.{Circuit}
use Rattle.channels.specs.Channels.{Channels}
use Rattle.channels.specs.Nonsharing.{nonsharing}
use Rattle.channels.specs.declared.Standing.{Standing}
use Rattle.channels.proofs.Nonsharing.{Stands, Lower, nonsharing_stand, nonsharing_rise}
use Rattle.steps.specs.Steps.{join_place, nowhere, newcomer, candidates, passed, found_pair, stands_right}
use Rattle.steps.specs.Ready.{Ready}
use Rattle.steps.proofs.Searches.{none_joins}

-- a candidate is a nonsharing circuit at its place, or the new one
abbrev pub Candidate : ℕ → Channels → Circuit → Standing → Type 0
Candidate m t c s = Stands m t s ⊎ (s ≡ newcomer c)

-- an old one and a candidate at a higher place
abbrev pub Couple : ℕ → Channels → Circuit → Standing × Standing → Type 0
Couple m t c p = Stands m t p.0 × Candidate m t c p.1 × Lower p.0 p.1

module _ (m : ℕ) (t : Channels) (c : Circuit) (within : m ≤ length t) (low : m ≤ nowhere) where
  -- those listed are candidates
  all_candidates : All (Candidate m t c) (candidates m t c)
  all_candidates =
      all_join (Candidate m t c) (nonsharing m t) (newcomer c ∷ [])
      (all_map _ _ (λ s h. inl h) (nonsharing m t) (nonsharing_stand m t within)) (inr refl, tt)

  -- of two by rising place the first is no new one
  couple : (p : Standing × Standing) → Candidate m t c p.0 × Candidate m t c p.1 × Lower p.0 p.1 → Couple m t c p
  couple p (inl sa, cb, l) = (sa, cb, l)
  couple p (inr e, inl sb, l) = absurd (omega (arith, sb.low, ap (λ s. s.place) e))
  couple p (inr e, inr f, l) = absurd (omega (arith, ap (λ s. s.place) e, ap (λ s. s.place) f))

  -- so it is in every pair
  all_pairs : All (Couple m t c) (pairs_of (candidates m t c))
  all_pairs =
      all_map _ _ couple (pairs_of (candidates m t c))
      (pairs_all (Candidate m t c) Lower (candidates m t c) all_candidates (nonsharing_rise m t within (newcomer c) low))

  -- and in the one found
  pub found_couple : passed m t c < length (pairs_of (candidates m t c)) → Couple m t c (found_pair m t c)
  found_couple found = all_at (Couple m t c) (newcomer c, newcomer c) (pairs_of (candidates m t c)) all_pairs (passed m t c) found

module _ (N m : ℕ) (t : Channels) (c : Circuit) (within : m ≤ length t) (h : Ready N m t c) where
  -- where the first of the pair stands right, the second is no new one: step 1 would have joined them
  pub both_old : m ≤ join_place N m t c → (a b : Standing) → Couple m t c (a, b) → stands_right N a b a ≡ true → b.place < nowhere
  both_old j a b (sa, inl sb, l) e = omega (arith, sb.low, h.low)
  both_old j a b (sa, inr f, l) e =
      let can = rw f at (and_right (ltb a.place nowhere) _ e) in absurd (true≢false (sym can ∙ none_joins N m t c j a sa))
