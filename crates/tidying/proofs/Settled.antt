-- Changes by which circuits that share stay, and none is alone at a place where it was not: no circuit moves twice by them. Assumes nothing.
use Prim.Native.Nat.{ℕ, ◌+◌, ◌≤◌, ◌<◌}
use mathlib.Core.Path.{◌≡◌, refl, sym, ◌∙◌}
use mathlib.Core.Bool.{Bool, true, false, true≢false}
use mathlib.Core.List.{List}
use native.Mathlib.Omega.{arith}
use lib.Dec.{ltb}
use lib.ListN.{length}
use borrow.Author.Tests.{eq-eqb}
use Rattle.basis.specs.Choice.{bit}
use Rattle.basis.specs.Count.{All}
use Rattle.basis.proofs.Bools.{and-false, all_map}
use Rattle.basis.proofs.Weigh.{bit_most}
use Rattle.limits.specs.Limits.{place_count}
use Rattle.slots.specs.Slot.{held, is_alone}
use Rattle.slots.specs.declared.Slot.{Slot}
use Rattle.slots.specs.declared.Slot.TheVariants.{Unlit as unlit, Alone as alone, Shared as shared}
use Rattle.channels.specs.Channels.{Channels, at, numbered, live, where_is}
use Rattle.channels.specs.declared.Change.{Change}
use Rattle.channels.specs.Change.{puts}
use Rattle.channels.proofs.Numbers.{found_there, live_placed, stands_at_lem}
use Rattle.channels.proofs.Puts.{Within, puts_every}
use Rattle.rules.proofs.Rules.{Rules, limits_hold}
use Rattle.steps.specs.Moved.{moved_to}
use Rattle.steps.proofs.Chain.{AtMostOnce}

-- two circuits share at a place
abbrev pub is_shared : Slot → Bool
is_shared unlit = false
is_shared (alone a) = false
is_shared (shared a b) = true

-- from the places t to the places t'
pub record Settles (t t' : Channels) : Type 0 where
  -- where two share, they stay
  pub firm : (q : ℕ) → q < place_count → is_shared (at t q) ≡ true → at t' q ≡ at t q
  -- where one is alone afterwards, it was
  pub rest : (q : ℕ) → q < place_count → is_alone (at t' q) ≡ true → at t q ≡ at t' q

-- so it is where nothing changes
pub settles_same : (t : Channels) → Settles t t
settles_same t = record { firm = λ q l h. refl; rest = λ q l h. refl }

-- and by one change after another
pub settles_then : (t t₁ t₂ : Channels) → Settles t t₁ → Settles t₁ t₂ → Settles t t₂
settles_then t t₁ t₂ s r = record {
  firm = λ q l h. r.firm q l (rw (s.firm q l h) h) ∙ s.firm q l h;
  rest = λ q l h. s.rest q l (rw (r.rest q l h) h) ∙ r.rest q l h;
}

-- a number that stands at one place before and after has not moved
still : (t t' : Channels) (k q : ℕ) → where_is t k ≡ q → where_is t' k ≡ q → bit (moved_to t t' k) ≡ 0
still t t' k q e f = rw (e, f, eq-eqb q q refl, and-false (ltb q place_count))

-- 02, E5: by two such steps no circuit moves twice: where it stands between them, it is alone and has not moved, or shares and will not
pub no_twice : (N : ℕ) (ks : List ℕ) (t t₁ t₂ : Channels) → Rules N ks t → Rules N ks t₁ → Rules N ks t₂ → ((k : ℕ) → live t k ≡ live t₁ k)
    → Settles t t₁ → Settles t₁ t₂ → AtMostOnce t t₁ t₂
no_twice N ks t t₁ t₂ rules rules₁ rules₂ same s r k l = go (at t₁ q) refl
  where
    q : ℕ
    q = where_is t₁ k

    low : q < place_count
    low = live_placed t₁ k (limits_hold N ks t₁ rules₁).long (sym (same k) ∙ l)

    there : 0 < numbered k (held (at t₁ q))
    there = found_there t₁ k low

    go : (u : Slot) → at t₁ q ≡ u → bit (moved_to t t₁ k) + bit (moved_to t₁ t₂ k) ≤ 1
    go unlit e = absurd (omega (arith, rw e at there))
    go (alone a) e =
        omega (arith, still t t₁ k q (stands_at_lem t rules.numbers k q low (rw (s.rest q low (rw e refl)) there)) refl, bit_most (moved_to t₁ t₂ k))
    go (shared a b) e =
        omega (arith, still t₁ t₂ k q refl (stands_at_lem t₂ rules₂.numbers k q low (rw (r.firm q low (rw e refl)) there)), bit_most (moved_to t t₁ k))

-- 02, E5: changes of places where no two share, which leave none alone there, are such: two that share stay, and one that is alone afterwards
-- was alone at that place before
pub settles_puts : (chs : List Change) (t : Channels) → length t ≡ place_count → Within t chs → All (λ ch. is_shared (at t ch.place) ≡ false) chs
    → All (λ ch. is_alone ch.slot ≡ false) chs → Settles t (puts chs t)
settles_puts chs t long within were get = record {
  firm =
      λ q l h. puts_every (λ q u. is_shared (at t q) ≡ true → u ≡ at t q) chs t within (λ p l n h. refl)
      (all_map _ _ (λ ch e h. absurd (true≢false (sym h ∙ e))) chs were) q (rw long l) h;
  rest =
      λ q l h. puts_every (λ q u. is_alone u ≡ true → at t q ≡ u) chs t within (λ p l n h. refl)
      (all_map _ _ (λ ch e h. absurd (true≢false (sym h ∙ e))) chs get) q (rw long l) h;
}
