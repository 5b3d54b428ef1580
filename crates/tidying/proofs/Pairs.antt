-- What joining a pair does to the places: two circuits fewer are alone, and one place fewer is lit. No ring rule is asked for. Assumes
-- nothing.
use Prim.Native.Nat.{ℕ, ◌+◌, ◌≤◌, ◌<◌}
use mathlib.Core.Path.{◌≡◌, refl, sym, ap, ◌∙◌}
use mathlib.Core.Logic.{◌≢◌}
use mathlib.Core.Bool.{Bool, true, false, ◌&&◌, true≢false}
use mathlib.Core.List.{List}
use native.Mathlib.Omega.{arith}
use lib.Dec.{ltb}
use lib.ListN.{length}
use borrow.Author.Tests.{ltb-true}
use Rattle.basis.specs.Choice.{pick, bit}
use Rattle.basis.specs.Count.{weigh, All}
use Rattle.basis.proofs.Bools.{and_left, and_right}
use Rattle.basis.proofs.Weigh.{bit_most, weigh_most}
use Rattle.limits.specs.Limits.{place_count}
use Rattle.lightpath.specs.Place.{direction_of}
use Rattle.lightpath.specs.Circuit.{adjacent, can_share, share_direction}
use Rattle.lightpath.specs.declared.Circuit.{Circuit}
use Rattle.lightpath.proofs.Share.{can_swap, can_one}
use Rattle.slots.specs.Slot.{is_lit, is_unlit, is_alone, together}
use Rattle.slots.specs.declared.Slot.{Slot}
use Rattle.slots.specs.declared.Slot.TheVariants.{Unlit as unlit, Alone as alone, Shared as shared}
use Rattle.slots.proofs.Contents.{is_unlit_lem}
use Rattle.channels.specs.Channels.{Channels, at, slots, lit_places}
use Rattle.channels.specs.Change.{puts}
use Rattle.channels.specs.declared.Change.{Change}
use Rattle.channels.specs.declared.Standing.{Standing}
use Rattle.channels.proofs.Places.{slots_length}
use Rattle.channels.proofs.Nonsharing.{Stands}
use Rattle.channels.proofs.Puts.{Apart, Within, puts_sum}
use Rattle.steps.specs.Steps.{nowhere, stands_right}
use Rattle.steps.proofs.Searches.{lowest_passes, lowest_direction}
use Rattle.tidying.specs.Round.{Round, to_member, to_unlit, unlit_for, joinable, join_pair, can_round, round_pair, round_of, rounded}
use Rattle.tidying.proofs.Settled.{is_shared, Settles, settles_puts}
use Rattle.tidying.proofs.Choice.{Pair, round_pair_lem, round_joinable}

-- how many circuits are alone at their places
abbrev pub alone_count : Channels → ℕ
alone_count t = weigh (λ s. bit (is_alone s)) (slots t)

-- no more than there are places
pub alone_most : (t : Channels) → alone_count t ≤ length t
alone_most t = omega (arith, weigh_most (λ s. bit (is_alone s)) (λ s. bit_most (is_alone s)) (slots t), slots_length t)

-- what holds of two at a place whichever has the lower number holds of them together
together_is : (P : Slot → Type 0) (a b : Circuit) → P (shared a b) → P (shared b a) → P (together a b)
together_is P a b h k = go (ltb a.number b.number)
  where
    go : (o : Bool) → P (pick o (shared a b) (shared b a))
    go true = h
    go false = k

-- changes that join two nonsharing circuits: no place is changed twice, no two share at one of them before, none is alone there after
pub record Joining (t : Channels) (chs : List Change) : Type 0 where
  pub apart : Apart chs
  pub within : Within t chs
  pub were : All (λ ch. is_shared (at t ch.place) ≡ false) chs
  pub get : All (λ ch. is_alone ch.slot ≡ false) chs
  pub lit : weigh (λ ch. bit (is_lit (at t ch.place))) chs ≡ 1 + weigh (λ ch. bit (is_lit ch.slot)) chs
  pub lone : weigh (λ ch. bit (is_alone (at t ch.place))) chs ≡ 2 + weigh (λ ch. bit (is_alone ch.slot)) chs

module _ (t : Channels) (chs : List Change) (j : Joining t chs) where
  -- one place fewer is lit
  pub joining_lit : lit_places (puts chs t) + 1 ≡ lit_places t
  joining_lit = omega (arith, puts_sum (λ s. bit (is_lit s)) chs t j.apart j.within, j.lit)

  -- two circuits fewer are alone
  joining_lone : alone_count (puts chs t) + 2 ≡ alone_count t
  joining_lone = omega (arith, puts_sum (λ s. bit (is_alone s)) chs t j.apart j.within, j.lone)

  -- and the others stay where they are
  pub joining_settles : length t ≡ place_count → Settles t (puts chs t)
  joining_settles long = settles_puts chs t long j.within j.were j.get

-- a nonsharing circuit does not stand at an unlit place
pub other_place : (m : ℕ) (t : Channels) (p : ℕ) → at t p ≡ unlit → (s : Standing) → Stands m t s → s.place ≢ p
other_place m t p dark s h e =
    let z : is_unlit unlit ≡ is_unlit (alone s.circuit) = ap is_unlit (sym dark ∙ ap (at t) (sym e) ∙ h.there) in true≢false z

module _ (m : ℕ) (t : Channels) (within : m ≤ length t) where
  -- b joins a
  pub member_joining : (a b : Standing) → Stands m t a → Stands m t b → a.place ≢ b.place → Joining t (to_member a b).changes
  member_joining a b sa sb n = record {
    apart = ((λ e. n (sym e), tt), (tt, tt));
    within = (omega (arith, sa.low), (omega (arith, sb.low), tt));
    were = (rw sa.there refl, (rw sb.there refl, tt));
    get = (together_is (λ s. is_alone s ≡ false) a.circuit b.circuit refl refl, (refl, tt));
    lit = rw (sa.there, sb.there) (omega (arith, together_is (λ s. bit (is_lit s) ≡ 1) a.circuit b.circuit refl refl));
    lone = rw (sa.there, sb.there) (omega (arith, together_is (λ s. bit (is_alone s) ≡ 0) a.circuit b.circuit refl refl));
  }

  -- both go to an unlit place
  pub unlit_joining : (p : ℕ) (a b : Standing) → p < m → at t p ≡ unlit → Stands m t a → Stands m t b → a.place ≢ b.place
      → Joining t (to_unlit p a b).changes
  unlit_joining p a b l dark sa sb n = record {
    apart = ((other_place m t p dark a sa, (other_place m t p dark b sb, tt)), ((λ e. n (sym e), tt), (tt, tt)));
    within = (omega arith, (omega (arith, sa.low), (omega (arith, sb.low), tt)));
    were = (rw dark refl, (rw sa.there refl, (rw sb.there refl, tt)));
    get = (together_is (λ s. is_alone s ≡ false) a.circuit b.circuit refl refl, (refl, (refl, tt)));
    lit = rw (dark, sa.there, sb.there) (omega (arith, together_is (λ s. bit (is_lit s) ≡ 1) a.circuit b.circuit refl refl));
    lone = rw (dark, sa.there, sb.there) (omega (arith, together_is (λ s. bit (is_alone s) ≡ 0) a.circuit b.circuit refl refl));
  }

-- a round is of one of two kinds: what holds of both holds of it
module _ (N m : ℕ) (t : Channels) (within : m ≤ length t) (P : Round → Type 0)
    (member : (a b : Standing) → Stands m t a → Stands m t b → a.place ≢ b.place
    → can_share N (direction_of a.place) a.circuit b.circuit ≡ true → P (to_member a b))
    (both : (p : ℕ) (a b : Standing) → p < m → at t p ≡ unlit → Stands m t a → Stands m t b → a.place ≢ b.place
    → can_share N (direction_of p) a.circuit b.circuit ≡ true → P (to_unlit p a b)) where
  -- a pair that can be joined
  pair_by : (a b : Standing) → Pair m t (a, b) → joinable N m t (a, b) ≡ true → P (join_pair N m t a b)
  pair_by a b (sa, sb, l) can = go (stands_right N a b a) refl (stands_right N a b b) refl
    where
      p : ℕ
      p = unlit_for N m t a b

      last : stands_right N a b a ≡ false → stands_right N a b b ≡ false → (adjacent a.circuit b.circuit && ltb p m) ≡ true
      last e f = rw (e, f) at can

      go : (o : Bool) → stands_right N a b a ≡ o → (r : Bool) → stands_right N a b b ≡ r → P (pick o (to_member a b) (pick r (to_member b a) (to_unlit p a b)))
      go true e r f = member a b sa sb (omega arith) (and_right (ltb a.place nowhere) _ e)
      go false e true f =
          member b a sb sa (omega arith) (can_swap N (direction_of b.place) a.circuit b.circuit (and_right (ltb b.place nowhere) _ f))
      go false e false f =
          let d = share_direction N a.circuit b.circuit in
          let low = ltb-true _ _ (and_right (adjacent a.circuit b.circuit) _ (last e f)) in
          both p a b low (is_unlit_lem (at t p) (lowest_passes is_unlit m t d low)) sa sb (omega arith)
          (rw (lowest_direction is_unlit m t d low) (can_one N a.circuit b.circuit (and_left _ _ (last e f))))

  -- the pair that a round takes is one
  pub round_by : can_round N m t ≡ true → P (round_of N m t)
  round_by can = pair_by (round_pair N m t).0 (round_pair N m t).1 (round_pair_lem N m t within can) (round_joinable N m t within can)

-- so a round joins two nonsharing circuits
pub round_joining : (N m : ℕ) (t : Channels) → m ≤ length t → can_round N m t ≡ true → Joining t (round_of N m t).changes
round_joining N m t within =
    round_by N m t within (λ r. Joining t r.changes) (λ a b sa sb n can. member_joining m t within a b sa sb n)
    (λ p a b l dark sa sb n can. unlit_joining m t within p a b l dark sa sb n)

-- 02, E5: a round leaves two circuits fewer alone
pub round_lone : (N m : ℕ) (t : Channels) → m ≤ length t → can_round N m t ≡ true → alone_count (rounded N m t) + 2 ≡ alone_count t
round_lone N m t within can = joining_lone t (round_of N m t).changes (round_joining N m t within can)
