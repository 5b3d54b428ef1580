-- The two passes give the survey of the table that the entries are of. Assumes nothing.
use Prim.Native.Nat.{ℕ, ◌-◌, ◌<◌}
use mathlib.Core.Path.{◌≡◌, refl, sym, ap, ◌∙◌}
use mathlib.Core.Bool.{true, ◌&&◌, not, false≢true}
use mathlib.Core.List.{List}
use native.Mathlib.Decide.{dec_lt}
use native.Mathlib.Omega.{arith}
use lib.Dec.{ltb}
use lib.ListN.{get_or, take}
use borrow.Author.Tests.{lt-ltb, le-ltb}
use Rattle.basis.specs.Count.{weigh}
use Rattle.basis.proofs.Bools.{and_left}
use Rattle.limits.specs.Limits.{place_count}
use Rattle.lightpath.specs.Place.{direction_of}
use Rattle.lightpath.specs.Circuit.{can_share}
use Rattle.lightpath.specs.declared.Circuit.{Circuit}
use Rattle.slots.specs.Slot.{held, is_alone, first_of}
use Rattle.slots.specs.declared.Slot.{Slot}
use Rattle.slots.specs.declared.Slot.TheVariants.{Unlit as unlit, Alone as alone, Shared as shared}
use Rattle.lit_words.specs.Lit.{lit_bit}
use Rattle.lit_words.proofs.LitBits.{words_say}
use Rattle.channels.specs.Channels.{Channels, at}
use Rattle.channels.specs.Nonsharing.{standing_at}
use Rattle.channels.specs.declared.Standing.{Standing}
use Rattle.rules.proofs.Rules.{rules_hold, limits_hold}
use Rattle.steps.specs.Steps.{can_join, join_place}
use Rattle.survey.specs.Survey.{standing_below, survey_of}
use Rattle.entries.specs.Entry.{entry_of}
use Rattle.roster.specs.Held.{Holds}
use Rattle.rows.specs.Row.{row_in}
use Rattle.rows.specs.declared.Row.{Row}
use Rattle.rows.proofs.Held.{held_used, held_ordered, held_order, held_sends}
use Rattle.roster_survey.specs.Pass.{Pass, Nearest, shared_in, pass_of, Entered, joinable, Least, joinable_at, place_at, Reached, standing_in}
use Rattle.roster_survey.proofs.Lowest.{Stands, least_first}
use Rattle.roster_survey.proofs.Entries.{held_numbered, held_received, held_at, held_lit, held_place, held_some, held_alone, held_found, held_entered}

module _ (N : ℕ) (ks : List ℕ) (t : Channels) (keys rests : List ℕ) (count : ℕ) (h : Holds N ks t keys rests count) where
  pub survey_entered : Entered keys rests count
  survey_entered = held_entered N ks t keys rests count h

  pub survey_nodes : 0 < N
  survey_nodes = omega (arith, (limits_hold N ks t (rules_hold N ks t h.rules)).three)

  module _ (c : Circuit) where
    module _ (v : Pass) (seen : v ≡ pass_of c (take count keys) (take count rests)) where
      -- a place is shared where two stand
      shared_says : (p : ℕ) → p < place_count → lit_bit v.shared p ≡ ltb 1 (weigh (λ x. 1) (held (at t p)))
      shared_says p l = rw seen (words_say (shared_in (take count rests)) p l ∙ ap (λ (n : ℕ). ltb 1 n) (held_at N ks t keys rests count h p))

      -- an entry can be joined where its place can
      join_at : (j : ℕ) → j < count → joinable_at N c v.shared keys rests j ≡ can_join N c (place_at rests j) (at t (place_at rests j))
      unfolding joinable
      join_at j l = go (at t (place_at rests j)) refl
        where
          p : ℕ
          p = place_at rests j

          go : (s : Slot) → at t p ≡ s
              → (not (lit_bit v.shared p) && can_share N (direction_of p) (entry_of (get_or keys j 0) (get_or rests j 0)).circuit c) ≡ can_join N c p s
          go unlit e = absurd (omega (arith, rw e at (held_some N ks t keys rests count h j l)))
          go (alone a) e = rw (shared_says p (survey_entered.below j l), e, held_alone N ks t keys rests count h j l a e)
          go (shared a b) e = rw (shared_says p (survey_entered.below j l), e)

      -- and at each such place one stands
      join_stands : (p : ℕ) → can_join N c p (at t p) ≡ true → Stands (joinable_at N c v.shared keys rests) (place_at rests) count p
      join_stands p e =
          let r = held_found N ks t keys rests count h p (alone_some (at t p) (and_left _ _ e)) in
          record {
            position = r.position;
            within = r.within;
            passes = join_at r.position r.within ∙ rw r.stands e;
            stands = r.stands;
          }
        where
          alone_some : (s : Slot) → is_alone s ≡ true → 0 < weigh (λ x. 1) (held s)
          alone_some unlit e = absurd (false≢true e)
          alone_some (alone a) e = omega arith
          alone_some (shared a b) e = absurd (false≢true e)

      module _ (m : ℕ) (n : Nearest) (s : Least (joinable_at N c v.shared keys rests) (place_at rests) m count n) where
        -- so the nearest is step 1's
        nearest_place : n.place ≡ join_place N m t c
        nearest_place =
            least_first (joinable_at N c v.shared keys rests) (place_at rests) m (λ p. can_join N c p (at t p)) count n s
            (λ j l e. sym (join_at j l) ∙ e) join_stands

        abbrev found : Standing
        found = entry_of (get_or keys n.position 0) (get_or rests n.position 0)

        -- and its entry the circuit there
        nearest_entry : n.place < m → found ≡ standing_at t n.place
        nearest_entry l = λ i. record { place = stands i; circuit = circuit i }
          where
            first : (k : Slot) → at t (place_at rests n.position) ≡ k → is_alone k ≡ true → found.circuit ≡ first_of k
            first unlit e a = absurd (false≢true a)
            first (alone x) e a = held_alone N ks t keys rests count h n.position (s.within l) x e
            first (shared x y) e a = absurd (false≢true a)

            stands : found.place ≡ n.place
            stands = held_place N ks t keys rests count h n.position (s.within l) ∙ s.stands l

            circuit : found.circuit ≡ first_of (at t n.place)
            circuit =
                rw (← s.stands l)
                (first (at t (place_at rests n.position)) refl (and_left _ _ (sym (join_at n.position (s.within l)) ∙ s.passes l)))

        join_is : standing_in m keys rests n ≡ standing_below m t (join_place N m t c)
        join_is = go (dec_lt n.place m)
          where
            go : Dec (n.place < m) → standing_in m keys rests n ≡ standing_below m t (join_place N m t c)
            go (yes l) = let below = lt-ltb n.place m l in rw (← nearest_place, below) (nearest_entry l)
            go (no l) = let above = le-ltb n.place m (omega arith) in rw (← nearest_place, above)

        pub survey_reached : Reached m keys rests n
        survey_reached = record {
          key = λ l. omega (arith, s.within l, survey_entered.keyed);
          rest = λ l. omega (arith, s.within l, survey_entered.rested);
        }

        -- 02, E7: "every call on the new one gives what the old one gives": the passes over the entries see what the pass over the places of
        -- the table sees
        pub survey_is : (r : Row) (x : Standing) → r ≡ row_in (take count keys) c.source → x ≡ standing_in m keys rests n
            → record { numbered = v.numbered; sent = r.end - r.start; received = v.received; join = x; lit = v.lit } ≡ survey_of N m t c
        survey_is r x row e =
            let numbers = ap (λ (w : Pass). w.numbered) seen ∙ held_numbered N ks t keys rests count h c.number in
            let destinations = ap (λ (w : Pass). w.received) seen ∙ held_received N ks t keys rests count h c.destination in
            let lit = ap (λ (w : Pass). w.lit) seen ∙ held_lit N ks t keys rests count h in
            rw (e ∙ join_is, numbers, held_sends N ks t keys rests count h c.source r row, destinations, lit)

-- the count, as an index
pub survey_count : (N : ℕ) (ks : List ℕ) (t : Channels) (keys rests : List ℕ) (count n : ℕ) → n ≡ count → Holds N ks t keys rests count → Holds N ks t keys rests n
survey_count N ks t keys rests count n e h = rw e h

pub ruleset surveyed = (held_used, held_ordered, held_order, survey_entered, survey_nodes, survey_reached, survey_is)
