-- 02, E5, for every table that meets the ring rules and every lent list: what a tidying does, of what is decided by value, and of the lent list
-- after it. Assumes nothing.
use Prim.Native.Nat.{ℕ, ◌≤◌, ◌<◌}
use mathlib.Core.Path.{◌≡◌, refl, sym, ap, subst, ◌∙◌}
use mathlib.Core.Logic.{◌⊎◌, inl, inr}
use mathlib.Core.Bool.{Bool, true, false, not}
use mathlib.Core.List.{List, []}
use native.Mathlib.Decide.{dec_lt}
use native.Mathlib.Omega.{arith}
use lib.ListN.{length}
use borrow.Author.Tests.{lt-ltb, le-ltb, not-true}
use Rattle.limits.specs.Limits.{place_count, tidy_records}
use Rattle.lightpath.specs.Place.{direction_of}
use Rattle.lightpath.specs.Circuit.{can_share}
use Rattle.lightpath.specs.declared.Circuit.{Circuit}
use Rattle.slots.specs.declared.Slot.TheVariants.{Unlit as unlit, Alone as alone}
use Rattle.channels.specs.Channels.{at}
use Rattle.channels.specs.declared.Standing.{Standing}
use Rattle.channels.proofs.Nonsharing.{Stands}
use Rattle.channels.proofs.Numbers.{one_place_lem}
use Rattle.moves.specs.MoveList.{recorded, list_of, written_all}
use Rattle.moves.specs.declared.Move.{Move}
use Rattle.moves.specs.declared.MoveList.{MoveList}
use Rattle.moves.proofs.Recorded.{recorded_list}
use Rattle.moves.proofs.Front.{length_fronted, take_fronted, drop_fronted, fronted_none}
use Rattle.ports.specs.Ports.{limit_of}
use Rattle.rules.proofs.Rules.{Rules, rules_hold, Limits, limits_hold}
use Rattle.steps.proofs.Chain.{kept_found}
use Rattle.tidying.specs.Tidying as S
use Rattle.tidying.specs.Round.{can_round}
use Rattle.tidying.proofs.Tidying.{Rounds, tidying_does, tidying_done, tidying_again}
use Rattle.tidying.proofs.Apart.{first_apart, second_apart, unlit_apart}
use Rattle.rounds.specs.Tidied.{tidied_places}
use Rattle.rounds.specs.declared.TidiedPlaces.{TidiedPlaces}
use Rattle.refusals.specs.declared.Refusal.{Refusal}
use Rattle.refusals.specs.declared.Refusal.TheVariants.{ShortList, BrokenRule}
use Rattle.refusals.specs.Answer.{answer_by}
use Rattle.refusals.proofs.Reasons.{in_numbers_lem}
use Rattle.ring.specs.Table.{RingTable, meets_rules, with_channels}
use Rattle.ring.specs.Tidying.{Tidied, TidyDecision, tidy_causes, rounds_of, tidying_by, decide_tidy_of, tidy_of, tidy_lent_after}
use Rattle.ring.specs.Answer.{tidying_answer}
use Rattle.ring.specs.Numbers.{tidy_reasons, tidy_values}
use Rattle.ring.specs.Tidies.{Tidies, TidiesBy, TidiesLent}
use Rattle.ring.proofs.TableRules.{table_rules, table_limits, some_nodes}
use Rattle.std.specs.Prelude.{Ok, Err}

-- tidying: 22, 20
pub tidy_numbers : (t : RingTable) (n : ℕ) → tidying_answer (decide_tidy_of t n).tidied.answer ≡ answer_by (tidy_reasons t n) (tidy_values t)
unfolding decide_tidy_of
tidy_numbers t n =
    in_numbers_lem (λ v. tidying_answer (tidying_by t v).tidied.answer) (tidy_values t) refl (λ r. refl) (tidy_causes t n) (tidy_reasons t n)
    (refl, refl, (refl, refl, tt))

-- a refusal hands back the table as it was, with no moves
pub tidy_refused : (t : RingTable) (r : Refusal) (ms : MoveList) → ms ≡ list_of []
    → record { tidied = record { table = t; answer = Err r }; moves = ms } ≡ tidying_by t (Err r)
tidy_refused t r ms e = rw e

-- a table that was found to break a rule is met by 22
pub tidy_unmet : (t : RingTable) (n : ℕ) (r : Bool) (d : TidyDecision) → r ≡ meets_rules t → not r ≡ true → d ≡ tidying_by t (Err BrokenRule)
    → d ≡ decide_tidy_of t n
unfolding decide_tidy_of
tidy_unmet t n r d e h k = rw (← e, not-true r h) k

module _ (t : RingTable) (n : ℕ) (rules : meets_rules t ≡ true) where
  -- one that meets them by 20, where the list is too short
  pub tidy_short : (d : TidyDecision) → n < tidy_records → d ≡ tidying_by t (Err ShortList) → d ≡ decide_tidy_of t n
  unfolding decide_tidy_of
  tidy_short d l k = rw (rules, lt-ltb n tidy_records l) k

  -- and else it is tidied
  pub tidy_long : (d : TidyDecision) → tidy_records ≤ n → d ≡ tidying_by t (Ok tt) → d ≡ decide_tidy_of t n
  unfolding decide_tidy_of
  tidy_long d l k = rw (rules, le-ltb n tidy_records l) k

-- the rounds by value, below the limit, are carried out
pub tidied_up : (t : RingTable) (m : ℕ) (p : TidiedPlaces) → p ≡ tidied_places (S.tidy_up t.nodes m t.channels) → m ≡ limit_of t.ports
    → record { tidied = record { table = with_channels t p.channels; answer = Ok (record { rounds = p.rounds; moves = p.moves.count }) }; moves = p.moves } ≡ tidying_by t (Ok tt)
tidied_up t m p e l = rw (e, l)

module _ (t : RingTable) (rules : meets_rules t ≡ true) where
  -- the rounds of a table
  does : Rounds S.most_rounds t.nodes t.ports t.channels (rounds_of t)
  does = tidying_does t.nodes t.ports t.channels (table_rules t rules)

  -- they make at most 128 moves
  pub few_moves : length (rounds_of t).moves ≤ tidy_records
  few_moves = omega (arith, does.short, does.few)

  -- the table can be tidied
  pub tidy_nodes : 0 < t.nodes
  tidy_nodes = some_nodes t rules

  pub tidy_low : (m : ℕ) → m ≡ limit_of t.ports → m ≤ place_count
  tidy_low m e = omega (arith, (table_limits t rules).below)

  -- the places afterwards meet the rules
  again : Rules t.nodes t.ports (rounds_of t).places
  again = rules_hold t.nodes t.ports (rounds_of t).places does.kept.rules

  -- two circuits alone below the limit can share neither where one stands nor at an unlit place below it
  apart : (p q r : ℕ) (a b : Circuit) → p < q → q < limit_of t.ports → at (rounds_of t).places p ≡ alone a → at (rounds_of t).places q ≡ alone b
      → r < limit_of t.ports → (r ≡ p) ⊎ ((r ≡ q) ⊎ (at (rounds_of t).places r ≡ unlit)) → can_share t.nodes (direction_of r) a b ≡ false
  apart p q r a b l i here there j = go
    where
      limits : Limits t.nodes t.ports (rounds_of t).places
      limits = limits_hold t.nodes t.ports (rounds_of t).places again

      within : limit_of t.ports ≤ length (rounds_of t).places
      within = omega (arith, limits.below, limits.long)

      done : can_round t.nodes (limit_of t.ports) (rounds_of t).places ≡ false
      done = tidying_done t.nodes t.ports t.channels (table_rules t rules)

      x : Standing
      x = record { place = p; circuit = a }

      y : Standing
      y = record { place = q; circuit = b }

      sx : Stands (limit_of t.ports) (rounds_of t).places x
      sx = record { low = omega arith; there = here }

      sy : Stands (limit_of t.ports) (rounds_of t).places y
      sy = record { low = i; there = there }

      go : (r ≡ p) ⊎ ((r ≡ q) ⊎ (at (rounds_of t).places r ≡ unlit)) → can_share t.nodes (direction_of r) a b ≡ false
      go (inl e) = rw e (first_apart t.nodes (limit_of t.ports) (rounds_of t).places within limits.below done x y sx sy l)
      go (inr (inl e)) = rw e (second_apart t.nodes (limit_of t.ports) (rounds_of t).places within limits.below done x y sx sy l)
      go (inr (inr e)) = unlit_apart t.nodes (limit_of t.ports) (rounds_of t).places within limits.below done x y sx sy l r j e

  -- what the rounds do
  pub tidied_table_lem : Tidies t (with_channels t (rounds_of t).places) (rounds_of t).rounds (length (rounds_of t).moves) (rounds_of t).moves
  tidied_table_lem =
      let k = does.kept in
      record {
        same_nodes = refl;
        same_ports = refl;
        exact = λ w. omega (arith, k.exact w);
        old = kept_found t.nodes t.ports t.channels [] (rounds_of t).places (rounds_of t).moves k;
        one_place = λ n q l. one_place_lem (rounds_of t).places again.numbers n q l;
        rules = k.rules;
        lit = does.lit;
        few_rounds = does.few;
        finished = apart;
        few = few_moves;
        count = k.count;
        many = refl;
        named = k.named;
        once = k.once;
        follows = does.follows;
        links = k.links;
      }

  -- 02, E5: what a tidying with a list of any length promises, for every table that meets the ring rules
  pub tidies_by : (n : ℕ) → TidiesBy t n (decide_tidy_of t n).tidied (recorded (decide_tidy_of t n).moves)
  tidies_by n = record {
    refused = λ l. rw (← tidy_short t n rules (tidying_by t (Err ShortList)) l refl) (refl, refl, refl);
    done =
        λ l. rw (← tidy_long t n rules (tidying_by t (Ok tt)) l refl, recorded_list (rounds_of t).moves)
        ((rounds_of t).rounds, length (rounds_of t).moves, refl, tidied_table_lem);
  }

  -- 02, E5: "the ring rules are met again": whatever a tidying answers, the table after it meets them
  pub tidy_rules : (n : ℕ) → meets_rules (decide_tidy_of t n).tidied.table ≡ true
  tidy_rules n = go (dec_lt n tidy_records)
    where
      go : Dec (n < tidy_records) → meets_rules (decide_tidy_of t n).tidied.table ≡ true
      go (yes l) = rw (← tidy_short t n rules (tidying_by t (Err ShortList)) l refl) rules
      go (no h) = rw (← tidy_long t n rules (tidying_by t (Ok tt)) (omega arith) refl) does.kept.rules

  -- 02, E5: a table that has been tidied is tidied already: no round is made, and it stays as it is
  pub tidy_again : (n : ℕ) → tidy_records ≤ n
      → decide_tidy_of (decide_tidy_of t n).tidied.table n
      ≡ record { tidied = record { table = (decide_tidy_of t n).tidied.table; answer = Ok (record { rounds = 0; moves = 0 }) }; moves = list_of [] }
  tidy_again n l =
      rw (← tidy_long t n rules (tidying_by t (Ok tt)) l refl)
      (sym (tidy_long (with_channels t (rounds_of t).places) n does.kept.rules _ l
      (sym (ap (λ o. record { tidied = record { table = with_channels t o.places; answer = Ok (record { rounds = o.rounds; moves = length o.moves }) }; moves = list_of o.moves })
      (tidying_again t.nodes t.ports t.channels (table_rules t rules))))))

-- a decision answers by the numbers; and does what a tidying does
abbrev pub Numbered : RingTable → ℕ → TidyDecision → Type 0
Numbered t n d = tidying_answer d.tidied.answer ≡ answer_by (tidy_reasons t n) (tidy_values t)

abbrev pub Keeps : RingTable → ℕ → TidyDecision → Type 0
Keeps t n d = TidiesBy t n d.tidied (recorded d.moves)

-- so does one as defined
module _ (t : RingTable) (n : ℕ) (d : TidyDecision) (e : d ≡ decide_tidy_of t n) where
  pub tidies_valid : meets_rules t ≡ true → (d ≡ decide_tidy_of t n) × (Numbered t n d × Keeps t n d)
  tidies_valid rules = (e, (rw e (tidy_numbers t n), rw e (tidies_by t rules n)))

  pub tidies_all : (d ≡ decide_tidy_of t n) × (Numbered t n d × (meets_rules t ≡ true → Keeps t n d))
  tidies_all = (e, (rw e (tidy_numbers t n), λ rules. (tidies_valid rules).1.1))

-- a tidying that answers as defined, and leaves the list as defined, does so
pub tidies_lent : (t : RingTable) (lent : List Move) (o : Tidied) (lent' : List Move) → o ≡ tidy_of t lent → lent' ≡ tidy_lent_after t lent
    → meets_rules t ≡ true → TidiesLent t lent o lent'
tidies_lent t lent o lent' e f rules = rw (e, f) (go (dec_lt (length lent) tidy_records))
  where
    Lent : TidyDecision → Type 0
    Lent d = TidiesLent t lent d.tidied (written_all lent d.moves)

    go : Dec (length lent < tidy_records) → Lent (decide_tidy_of t (length lent))
    go (yes l) =
        subst Lent (tidy_short t (length lent) rules (tidying_by t (Err ShortList)) l refl)
        (record {
          tidies = rw (← tidy_short t (length lent) rules (tidying_by t (Err ShortList)) l refl) at (tidies_by t rules (length lent));
          long = ap length same;
          rest = same;
          untouched = λ k. same;
        })
      where
        same : written_all lent (list_of []) ≡ lent
        same = fronted_none _ lent
    go (no h) =
        subst Lent (tidy_long t (length lent) rules (tidying_by t (Ok tt)) long refl)
        (record {
          tidies =
              subst (TidiesBy t (length lent) (tidying_by t (Ok tt)).tidied) (recorded_list ms ∙ sym (rw (recorded_list ms) (take_fronted _ ms lent (omega (arith, few_moves t rules)))))
              (rw (← tidy_long t (length lent) rules (tidying_by t (Ok tt)) long refl) at (tidies_by t rules (length lent)));
          long = length_fronted _ (recorded (list_of ms)) lent (omega arith);
          rest = rw (recorded_list ms) (drop_fronted _ ms lent);
          untouched = λ k. absurd (h k);
        })
      where
        ms : List Move
        ms = (rounds_of t).moves

        long : tidy_records ≤ length lent
        long = omega arith

-- the number of moves is a byte
pub moves_byte : (t : RingTable) (m : ℕ) (p : TidiedPlaces) → meets_rules t ≡ true → p ≡ tidied_places (S.tidy_up t.nodes m t.channels) → m ≡ limit_of t.ports
    → p.moves.count < 256
moves_byte t m p rules e l = rw (e, l) (omega (arith, few_moves t rules))

-- for `search (rules, tidying)`
pub ruleset tidying = (tidy_refused, tidied_up, moves_byte, tidy_nodes, tidy_low)
