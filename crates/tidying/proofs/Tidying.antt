-- The rounds together: they keep the circuits and the rules, name each move once, lower the lit places by one each, and end where no pair can
-- be joined. Assumes nothing.
use Prim.Native.Nat.{ℕ, zero, suc, ◌+◌, ◌*◌, ◌≤◌, zero-le}
use mathlib.Core.Path.{◌≡◌, refl, sym, ◌∙◌}
use mathlib.Core.Bool.{Bool, true, false, true≢false}
use mathlib.Core.List.{List, [], ◌++◌}
use native.Mathlib.Omega.{arith}
use lib.ListN.{length, length-append}
use borrow.Author.Tests.{lt-ltb}
use Rattle.basis.specs.Count.{All}
use Rattle.basis.specs.Search.{pairs_of}
use Rattle.basis.proofs.Bools.{all_map, all_and, all_join}
use Rattle.basis.proofs.Search.{none_passes}
use Rattle.slots.specs.Slot.{is_alone}
use Rattle.channels.specs.Channels.{Channels, at, lit_places}
use Rattle.channels.specs.Nonsharing.{nonsharing}
use Rattle.channels.proofs.Numbers.{live_placed}
use Rattle.moves.specs.declared.Move.{Move}
use Rattle.ports.specs.Ports.{limit_of}
use Rattle.rules.proofs.Rules.{Rules, rules_hold, limits_hold}
use Rattle.steps.specs.Following.{relocated}
use Rattle.steps.specs.Kept.{Kept}
use Rattle.steps.specs.Moved.{Names}
use Rattle.steps.proofs.Chain.{AtMostOnce, same_live, nothing_kept, kept_then}
use Rattle.steps.proofs.Carrying.{relocates}
use Rattle.tidying.specs.Round.{joinable, can_round, round_of, rounded}
use Rattle.tidying.specs.Tidying.{Tidying, tidy_within, most_rounds, tidy_up}
use Rattle.tidying.proofs.Settled.{Settles, settles_same, settles_then, no_twice}
use Rattle.tidying.proofs.Pairs.{alone_count, alone_most, round_lone}
use Rattle.tidying.proofs.Round.{Keeps, round_keeps}

-- nothing done
abbrev pub untouched : Channels → Tidying
untouched t = record { places = t; rounds = 0; moves = [] }

-- a tidying of places in which no pair can be joined does nothing
pub tidied_already : (k N m : ℕ) (t : Channels) → can_round N m t ≡ false → tidy_within k N m t ≡ untouched t
unfolding tidy_within
tidied_already zero N m t e = refl
tidied_already (suc k) N m t e = rw e

-- nor does one of no rounds
tidied_none : (N m : ℕ) (t : Channels) → tidy_within 0 N m t ≡ untouched t
unfolding tidy_within
tidied_none N m t = refl

-- and one in which a pair can be is a round, and the tidying after it
pub tidied_on : (k N m : ℕ) (t : Channels) → can_round N m t ≡ true
    → tidy_within (suc k) N m t ≡ (let rest = tidy_within k N m (rounded N m t) in
    record { places = rest.places; rounds = suc rest.rounds; moves = (round_of N m t).moves ++ rest.moves })
unfolding tidy_within
tidied_on k N m t e = rw e

-- what at most k rounds do, from the places t
pub record Rounds (k N : ℕ) (ks : List ℕ) (t : Channels) (o : Tidying) : Type 0 where
  pub kept : Kept N ks t [] [] o.places o.moves
  pub lit : lit_places o.places + o.rounds ≡ lit_places t
  pub settles : Settles t o.places
  -- places from the limit up hold what they held
  pub above : (q : ℕ) → limit_of ks ≤ q → at o.places q ≡ at t q
  pub few : o.rounds ≤ k
  pub short : length o.moves ≤ 2 * o.rounds
  pub alone : All (λ n. is_alone (at t n.from.0) ≡ true) o.moves
  pub follows : relocated t o.moves ≡ o.places
  pub done : alone_count t ≤ 2 * k → can_round N (limit_of ks) o.places ≡ false

module _ (N : ℕ) (ks : List ℕ) where
  -- no round
  none_do : (k : ℕ) (t : Channels) → Rules N ks t → (alone_count t ≤ 2 * k → can_round N (limit_of ks) t ≡ false) → Rounds k N ks t (untouched t)
  none_do k t rules h = record {
    kept = nothing_kept N ks t rules;
    lit = omega arith;
    settles = settles_same t;
    above = λ q l. refl;
    few = zero-le;
    short = zero-le;
    alone = tt;
    follows = refl;
    done = h;
  }

  -- one round, and those after it
  more_do : (k : ℕ) (t : Channels) (o : Tidying) → Rules N ks t → can_round N (limit_of ks) t ≡ true → Rounds k N ks (rounded N (limit_of ks) t) o
      → Rounds (suc k) N ks t (record { places = o.places; rounds = suc o.rounds; moves = (round_of N (limit_of ks) t).moves ++ o.moves })
  more_do k t o rules can r =
      record {
        kept = all;
        lit = omega (arith, j.lower, r.lit);
        settles = settles_then t t₁ o.places j.settles r.settles;
        above = λ q l. r.above q l ∙ j.above q l;
        few = omega (arith, r.few);
        short = omega (arith, r.short, j.short, length-append ms o.moves);
        alone = all_join _ ms o.moves j.alone (all_map _ _ before o.moves (all_and _ _ o.moves r.kept.named r.alone));
        follows = relocates N ks t o.places (ms ++ o.moves) rules all;
        done = λ h. r.done (omega (arith, round_lone N (limit_of ks) t within can));
      }
    where
      t₁ : Channels
      t₁ = rounded N (limit_of ks) t

      ms : List Move
      ms = (round_of N (limit_of ks) t).moves

      j : Keeps N ks t (round_of N (limit_of ks) t)
      j = round_keeps N ks t rules can

      within : limit_of ks ≤ length t
      within = let k = limits_hold N ks t rules in omega arith

      -- one that is alone after the round was so before it
      before : (n : Move) → Names t₁ o.places n × (is_alone (at t₁ n.from.0) ≡ true) → is_alone (at t n.from.0) ≡ true
      before n h =
          let low = live_placed t₁ n.number (limits_hold N ks t₁ (rules_hold N ks t₁ j.kept.rules)).long h.0.was in
          rw (j.settles.rest n.from.0 (rw h.0.old low) h.1) h.1

      once : AtMostOnce t t₁ o.places
      once =
          no_twice N ks t t₁ o.places rules (rules_hold N ks t₁ j.kept.rules) (rules_hold N ks o.places r.kept.rules)
          (same_live N ks t t₁ ms j.kept) j.settles r.settles

      all : Kept N ks t [] [] o.places (ms ++ o.moves)
      all = kept_then N ks t t₁ o.places ms o.moves rules j.kept r.kept once

  -- so it is with at most k rounds
  pub rounds_do : (k : ℕ) (t : Channels) → Rules N ks t → Rounds k N ks t (tidy_within k N (limit_of ks) t)
  rounds_do zero t rules =
      rw (tidied_none N (limit_of ks) t) (none_do zero t rules (λ h. go (can_round N (limit_of ks) t) refl h))
    where
      go : (o : Bool) → can_round N (limit_of ks) t ≡ o → alone_count t ≤ 2 * 0 → can_round N (limit_of ks) t ≡ false
      go true e h =
          let k = limits_hold N ks t rules in
          let within : limit_of ks ≤ length t = omega arith in absurd (omega (arith, round_lone N (limit_of ks) t within e))
      go false e h = e
  rounds_do (suc k) t rules = go (can_round N (limit_of ks) t) refl (λ again. rounds_do k (rounded N (limit_of ks) t) again)
    where
      go : (o : Bool) → can_round N (limit_of ks) t ≡ o
          → (Rules N ks (rounded N (limit_of ks) t) → Rounds k N ks (rounded N (limit_of ks) t) (tidy_within k N (limit_of ks) (rounded N (limit_of ks) t)))
          → Rounds (suc k) N ks t (tidy_within (suc k) N (limit_of ks) t)
      go true e rest =
          rw (tidied_on k N (limit_of ks) t e)
          (more_do k t (tidy_within k N (limit_of ks) (rounded N (limit_of ks) t)) rules e
          (rest (rules_hold N ks (rounded N (limit_of ks) t) (round_keeps N ks t rules e).kept.rules)))
      go false e rest = rw (tidied_already (suc k) N (limit_of ks) t e) (none_do (suc k) t rules (λ h. e))

-- where no pair can be joined, each pair fails
pub none_joinable : (N m : ℕ) (t : Channels) → can_round N m t ≡ false → All (λ pair. joinable N m t pair ≡ false) (pairs_of (nonsharing m t))
none_joinable N m t e = none_passes (joinable N m t) (pairs_of (nonsharing m t)) (λ l. true≢false (sym (lt-ltb _ _ l) ∙ e))

module _ (N : ℕ) (ks : List ℕ) (t : Channels) (rules : Rules N ks t) where
  -- 02, E5: "there are at most 64": a tidying is at most 64 rounds and 128 moves; each circuit that has moved is named once, and carrying out
  -- the records gives the second table
  pub tidying_does : Rounds most_rounds N ks t (tidy_up N (limit_of ks) t)
  tidying_does = rounds_do N ks most_rounds t rules

  -- 02, E5: "Rounds go on until no pair can be joined.": afterwards no pair can be joined
  pub tidying_done : can_round N (limit_of ks) (tidy_up N (limit_of ks) t).places ≡ false
  tidying_done = tidying_does.done (omega (arith, alone_most t, (limits_hold N ks t rules).long))

  -- 02, E5: a tidied table tidied again is itself, with no rounds
  pub tidying_again : tidy_up N (limit_of ks) (tidy_up N (limit_of ks) t).places ≡ untouched (tidy_up N (limit_of ks) t).places
  tidying_again = tidied_already most_rounds N (limit_of ks) (tidy_up N (limit_of ks) t).places tidying_done
