-- One round, in a table that meets the ring rules: it keeps the circuits and the rules, names its moves, and joins two circuits that stood
-- alone. Assumes nothing.
use Prim.Native.Nat.{ℕ, ◌+◌, ◌≤◌, ◌<◌}
use mathlib.Core.Path.{◌≡◌, refl, sym, ◌∙◌}
use mathlib.Core.Logic.{◌≢◌, inl}
use mathlib.Core.Bool.{true}
use mathlib.Core.List.{List, [], ◌∷◌}
use native.Mathlib.Omega.{arith}
use lib.ListN.{length}
use Rattle.basis.specs.Count.{All}
use Rattle.lightpath.specs.Place.{direction_of}
use Rattle.lightpath.specs.Circuit.{can_share}
use Rattle.slots.specs.Slot.{is_alone}
use Rattle.slots.specs.declared.Slot.TheVariants.{Unlit as unlit}
use Rattle.slots.proofs.Contents.{together_weighs}
use Rattle.channels.specs.Channels.{Channels, at, lit_places}
use Rattle.channels.specs.Change.{puts}
use Rattle.channels.specs.declared.Change.{Change}
use Rattle.channels.specs.declared.Standing.{Standing}
use Rattle.channels.proofs.Puts.{puts_above}
use Rattle.channels.proofs.Nonsharing.{Stands}
use Rattle.ports.specs.Ports.{limit_of}
use Rattle.rules.proofs.Rules.{Rules, limits_hold}
use Rattle.rules.proofs.Unlit.{unlit_still}
use Rattle.steps.specs.Following.{relocated}
use Rattle.steps.specs.Kept.{Kept}
use Rattle.steps.proofs.Sound.{Shift, shifts, Sound, has, keeps}
use Rattle.steps.proofs.Carrying.{relocates}
use Rattle.steps.proofs.Five.{left, right, olds_fit}
use Rattle.tidying.specs.Round.{Round, to_member, to_unlit, can_round, round_of}
use Rattle.tidying.proofs.Settled.{Settles}
use Rattle.tidying.proofs.Pairs.{Joining, joining_lit, joining_settles, other_place, member_joining, unlit_joining, round_by}

-- what a round r of the places t keeps and does
pub record Keeps (N : ℕ) (ks : List ℕ) (t : Channels) (r : Round) : Type 0 where
  pub kept : Kept N ks t [] [] (puts r.changes t) r.moves
  -- one place fewer is lit
  pub lower : lit_places (puts r.changes t) + 1 ≡ lit_places t
  pub settles : Settles t (puts r.changes t)
  -- places from the limit up hold what they held
  pub above : (q : ℕ) → limit_of ks ≤ q → at (puts r.changes t) q ≡ at t q
  -- one or two moves, of circuits that were alone
  pub short : length r.moves ≤ 2
  pub alone : All (λ n. is_alone (at t n.from.0) ≡ true) r.moves
  -- carrying them out gives these places
  pub follows : relocated t r.moves ≡ puts r.changes t

module _ (N : ℕ) (ks : List ℕ) (t : Channels) (rules : Rules N ks t) where
  -- the limit
  abbrev m : ℕ
  m = limit_of ks

  -- sound changes below the limit that join two, with one or two moves, keep it all
  keeps_by : (chs : List Change) (stay : List Standing) (go : List Shift) → Sound N t [] [] chs stay go → All (λ ch. ch.place < m) chs
      → Joining t chs → length (shifts go) ≤ 2 → All (λ n. is_alone (at t n.from.0) ≡ true) (shifts go)
      → Keeps N ks t (record { changes = chs; moves = shifts go })
  keeps_by chs stay go s low j few lone =
      let same = puts_above m chs t low in
      let all = keeps N ks t [] [] chs stay go rules rules.numbers rules.ports s (unlit_still m t (puts chs t) rules.unused (λ q l e. same q l ∙ e)) in
      record {
        kept = all;
        lower = joining_lit t chs j;
        settles = joining_settles t chs j (limits_hold N ks t rules).long;
        above = same;
        short = few;
        alone = lone;
        follows = relocates N ks t (puts chs t) (shifts go) rules all;
      }

  within : m ≤ length t
  within = let k = limits_hold N ks t rules in omega arith

  -- b joins a
  member_keeps : (a b : Standing) → Stands m t a → Stands m t b → a.place ≢ b.place
      → can_share N (direction_of a.place) a.circuit b.circuit ≡ true → Keeps N ks t (to_member a b)
  member_keeps a b sa sb n can =
      let j = member_joining m t within a b sa sb n in
      keeps_by (to_member a b).changes (a ∷ []) (record { who = b; to = a.place } ∷ [])
      (record {
        apart = j.apart;
        within = j.within;
        fit = (olds_fit N ks t rules a.place a b sa sb n can, (refl, tt));
        took = λ w. rw (sa.there, sb.there) (omega arith);
        gave = λ w. omega (arith, together_weighs w a.circuit b.circuit);
        stayed = ((has N ks t rules a sa, inl (refl, left a.circuit b.circuit)), tt);
        went = ((has N ks t rules b sb, inl (refl, right a.circuit b.circuit), λ e. n (sym e)), tt);
      }) (sa.low, (sb.low, tt)) j (omega arith) (rw sb.there refl, tt)

  -- both go to an unlit place
  both_keep : (p : ℕ) (a b : Standing) → p < m → at t p ≡ unlit → Stands m t a → Stands m t b → a.place ≢ b.place
      → can_share N (direction_of p) a.circuit b.circuit ≡ true → Keeps N ks t (to_unlit p a b)
  both_keep p a b l dark sa sb n can =
      let j = unlit_joining m t within p a b l dark sa sb n in
      keeps_by (to_unlit p a b).changes [] (record { who = a; to = p } ∷ record { who = b; to = p } ∷ [])
      (record {
        apart = j.apart;
        within = j.within;
        fit = (olds_fit N ks t rules p a b sa sb n can, (refl, (refl, tt)));
        took = λ w. rw (dark, sa.there, sb.there) (omega arith);
        gave = λ w. omega (arith, together_weighs w a.circuit b.circuit);
        stayed = tt;
        went = (
          (has N ks t rules a sa, inl (refl, left a.circuit b.circuit), other_place m t p dark a sa),
          ((has N ks t rules b sb, inl (refl, right a.circuit b.circuit), other_place m t p dark b sb), tt),
        );
      }) (l, (sa.low, (sb.low, tt))) j (omega arith) (rw sa.there refl, (rw sb.there refl, tt))

  -- 02, E5: "Each lowers the lit places by exactly one": a round does, keeps the circuits, the ports and the ring rules, leaves the places
  -- from 2 × W up, and names its moves, at most two, with both places
  pub round_keeps : can_round N m t ≡ true → Keeps N ks t (round_of N m t)
  round_keeps = round_by N m t within (Keeps N ks t) member_keeps both_keep
