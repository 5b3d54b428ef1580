-- The rule that places from the limit up stay unlit: what it says of each place, what keeps it, and the test of each from there. Assumes nothing.
use Prim.Native.Nat.{ℕ, zero, suc, ◌≤◌, ◌<◌}
use mathlib.Core.Path.{◌≡◌, refl, sym, ap, ◌∙◌}
use mathlib.Core.Bool.{Bool, true, ◌&&◌, ◌||◌, not}
use mathlib.Core.List.{List, [], ◌∷◌}
use lib.Dec.{ltb, leb-zero, leb-suc-zero, leb-suc-suc}
use lib.ListN.{length, get_or, drop}
use Rattle.std.specs.List.{list_all}
use Rattle.basis.specs.Search.{every_below}
use Rattle.basis.proofs.Search.{every_same}
use Rattle.limits.specs.Limits.{place_count}
use Rattle.slots.specs.Slot.{is_unlit}
use Rattle.slots.specs.declared.Slot.TheVariants.{Unlit as unlit}
use Rattle.slots.proofs.Contents.{is_unlit_lem, unlit_not}
use Rattle.lit_words.specs.Lit.{none_lit_from}
use Rattle.lit_words.proofs.NoneLit.{none_lit_at, at_none_lit}
use Rattle.channels.specs.Channels.{Channels, unlit_channel, at, lit_at}
use Rattle.rules.specs.Rules.{unlit_from}

-- the elements from a position on pass where every position is below it or passes
from_every : {A : Type 0} (f : A → Bool) (d : A) (m : ℕ) (xs : List A)
    → list_all f (drop m xs) ≡ every_below (length xs) (λ p. ltb p m || f (get_or xs p d))
from_every f d zero [] = refl
from_every f d (suc m) [] = refl
from_every f d zero (x ∷ xs) = simp leb-suc-zero (simp leb-suc-zero at (ap (λ r. f x && r) (from_every f d zero xs)))
from_every f d (suc m) (x ∷ xs) = let below : ltb 0 (suc m) ≡ true = leb-suc-suc 0 m ∙ leb-zero m in simp (below, leb-suc-suc) (from_every f d m xs)

-- so many of them
from_each : {A : Type 0} (f : A → Bool) (d : A) (m : ℕ) (xs : List A) (n : ℕ) → length xs ≡ n
    → list_all f (drop m xs) ≡ every_below n (λ p. ltb p m || f (get_or xs p d))
from_each f d m xs n e = rw (← e) (from_every f d m xs)

module _ (m : ℕ) (t : Channels) where
  -- each place from m up is unlit
  pub above_unlit : unlit_from m t ≡ true → (p : ℕ) → p < place_count → m ≤ p → at t p ≡ unlit
  above_unlit h p l k = is_unlit_lem (at t p) (sym (unlit_not (at t p)) ∙ ap not (none_lit_at m (lit_at t) h p l k))

  -- and back
  pub unlit_above_lem : ((p : ℕ) → p < place_count → m ≤ p → at t p ≡ unlit) → unlit_from m t ≡ true
  unlit_above_lem h = at_none_lit m (lit_at t) (λ p l k. rw (h p l k))

  -- places of which those from m up are unlit wherever these are keep the rule
  pub unlit_still : (t' : Channels) → unlit_from m t ≡ true → ((p : ℕ) → m ≤ p → at t p ≡ unlit → at t' p ≡ unlit) → unlit_from m t' ≡ true
  unlit_still t' h k = at_none_lit m (lit_at t') (λ p l i. rw (k p i (above_unlit h p l i)))

  -- the places from m on are unlit one by one
  pub unlit_all : length t ≡ place_count → list_all (λ ch. is_unlit ch.slot) (drop m t) ≡ unlit_from m t
  unfolding none_lit_from
  unlit_all e = from_each (λ ch. is_unlit ch.slot) unlit_channel m t place_count e ∙ every_same place_count _ _ (λ p l. ap (λ r. ltb p m || r) (sym (unlit_not (at t p))))
