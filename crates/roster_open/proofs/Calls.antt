-- An opening and a closing in place: the lists hold the table after it, and the answer is that of the old arrangement. Assumes nothing.
use Prim.Native.Nat.{ℕ, ◌+◌, ◌-◌, ◌≤◌, ◌<◌}
use mathlib.Core.Path.{◌≡◌, refl, sym, ap, subst, ◌∙◌}
use mathlib.Core.Bool.{true, false, not}
use mathlib.Core.List.{List, [], ◌∷◌}
use native.Mathlib.Omega.{arith}
use lib.Dec.{eqb, ltb}
use lib.ListN.{length, take}
use lib.Seq.{length-take-le}
use borrow.Author.Tests.{lt-ltb, le-ltb}
use Rattle.basis.specs.Choice.{bit}
use Rattle.basis.proofs.Bools.{bit_eq, bit_passes, all_map}
use Rattle.basis.proofs.Weigh.{none_weigh}
use Rattle.basis.specs.Count.{weigh, All}
use Rattle.basis.specs.Search.{first_place}
use Rattle.limits.specs.Limits.{place_count, most_circuits, least_records}
use Rattle.lightpath.specs.declared.Circuit.{Circuit}
use Rattle.channels.specs.Channels.{Channels, at, circuits, live, numbered, where_is, circuit_of}
use Rattle.channels.specs.Change.{puts}
use Rattle.channels.specs.Closing.{closed}
use Rattle.channels.specs.declared.Standing.{Standing}
use Rattle.channels.proofs.Numbers.{live_placed, found_there}
use Rattle.slots.proofs.Contents.{parted}
use Rattle.moves.specs.declared.Moves.{Moves}
use Rattle.moves.specs.Records.{none, listed}
use Rattle.moves.proofs.Listed.{listed_moves}
use Rattle.ports.specs.Ports.{limit_of}
use Rattle.rules.specs.Allowable.{Allowable}
use Rattle.rules.proofs.Rules.{Rules, rules_hold, limits_hold}
use Rattle.rules.proofs.Counting.{circuits_most}
use Rattle.steps.specs.Steps.{join_place, unlit_place, plan_of}
use Rattle.steps.specs.Ready.{Ready}
use Rattle.steps.specs.Kept.{Kept, PlanKeeps}
use Rattle.steps.specs.Plan.{Plan}
use Rattle.steps.proofs.Closing.{closes}
use Rattle.plan.specs.declared.Planned.{Planned}
use Rattle.plan.specs.Planned.{Plans, planned_of}
use Rattle.plan.proofs.ByValue.{planned_count}
use Rattle.refusals.specs.Refusal.{◌if◌, judged, Verdict}
use Rattle.refusals.specs.declared.Refusal.{Refusal}
use Rattle.refusals.specs.declared.Refusal.TheVariants.{ShortList, NotLive}
use Rattle.causes.specs.Causes.{named_causes}
use Rattle.ring.specs.Opening.{used_causes, placing, refusing, decided_by, decide_of, Opening}
use Rattle.ring.specs.Closing.{close_of}
use Rattle.ring.specs.declared.RingTable.{RingTable}
use Rattle.ring.specs.declared.Decision.{Decision}
use Rattle.ring.specs.declared.Answered.{Answered}
use Rattle.ring.proofs.Placing.{placing_ready, placing_keeps}
use Rattle.ring.proofs.Deciding.{decide_refused, decide_granted, named_granted}
use Rattle.entries.specs.Entry.{in_fields}
use Rattle.entries.specs.Lists.{numbered_at, take_out}
use Rattle.roster.specs.declared.Heading.{Heading}
use Rattle.roster.specs.Roster.{entries, filed, places_of}
use Rattle.roster.specs.Held.{Typed, table_in, HoldsTable}
use Rattle.roster.specs.Listed.{Written, Lists, Listed, Files}
use Rattle.roster.proofs.Filing.{filed_weighs, weigh_ones}
use Rattle.roster.proofs.Standings.{entries_count, entries_circuits}
use Rattle.roster.proofs.Arranged.{typed_weight, weight_typed, holds_lists, lists_holds}
use Rattle.roster.proofs.Listing.{lists_room}
use Rattle.roster_open.specs.InPlace.{OpenedIn, OpensIn, ClosesIn, replaced_all, Replaces}
use Rattle.roster_open.proofs.Moved.{number_in, entries_single, opened_entries, moved_there, without_at, closed_entries}
use Rattle.roster_open.proofs.Replaced.{lists_without, taken_number, found_none, found_some, without_length}
use Rattle.std.specs.Prelude.{Ok, Err}

-- a circuit that was filed is within its fields
new_fields : (p : ℕ) (c : Circuit) (es : List Standing) → All Written (filed (record { place = p; circuit = c }) es) → in_fields c ≡ true
new_fields p c es h = bit_passes (in_fields c) (omega (arith, filed_weighs out (record { place = p; circuit = c }) es, none_weigh out (filed (record { place = p; circuit = c }) es) none))
  where
    out : Standing → ℕ
    out m = bit (not (in_fields m.circuit))

    none : All (λ m. out m ≡ 0) (filed (record { place = p; circuit = c }) es)
    none = all_map Written (λ m. out m ≡ 0) (λ m w. rw w.0) (filed (record { place = p; circuit = c }) es) h

-- and a table with such a circuit more has its circuits within theirs
opened_typed : (t : Channels) → Typed t → (c : Circuit) (t' : Channels) → ((w : Circuit → ℕ) → weigh w (circuits t') ≡ w c + weigh w (circuits t)) → in_fields c ≡ true → Typed t'
opened_typed t typed c t' exact e =
    typed_weight t' (let z : bit (not (in_fields c)) ≡ 0 = rw e in omega (arith, exact (λ x. bit (not (in_fields x))), weight_typed t typed))

-- the circuit of a number that has a place has that number
circuit_number : (t : Channels) (n : ℕ) → where_is t n < place_count → (circuit_of t n).number ≡ n
circuit_number t n l = (parted n (at t (where_is t n)) (found_there t n l)).number

module _ (h : Heading) (keys rests : List ℕ) (H : HoldsTable (table_in h keys rests) h keys rests) where
  abbrev N : ℕ
  N = h.nodes

  abbrev ks : List ℕ
  ks = h.ports

  abbrev chs : Channels
  chs = places_of keys rests h.count

  abbrev t : RingTable
  t = table_in h keys rests

  facts : Rules N ks chs
  facts = rules_hold N ks chs H.holds.rules

  lists : Lists (entries chs) keys rests h.count
  lists = holds_lists N ks chs keys rests h.count H.holds

  -- the first so many are there
  pub within_keys : h.count ≤ length keys
  within_keys = omega (arith, (lists_room (entries chs) keys rests h.count lists).0, lists.counted, lists.most)

  pub within_rests : h.count ≤ length rests
  within_rests = omega (arith, (lists_room (entries chs) keys rests h.count lists).1, lists.counted, lists.most)

  module _ (c : Circuit) (may : Allowable N ks chs c) where
    abbrev plan : Plan
    plan = plan_of N (limit_of ks) chs c

    abbrev after : Channels
    after = puts plan.changes chs

    k : PlanKeeps N ks chs c after plan.taken plan.moves
    k = placing_keeps t H.holds.rules c may

    -- there is room for one more
    room : h.count < most_circuits
    room =
        omega (
          arith,
          lists.counted,
          entries_count chs,
          weigh_ones (circuits chs),
          weigh_ones (circuits after),
          k.kept.exact (λ x. 1),
          circuits_most N ks after (rules_hold N ks after k.kept.rules),
        )

    module _ (m : ℕ) (limit : m ≡ limit_of ks) (p : Planned) (made : Plans (plan_of N m chs c) p) where
      is : Plans plan p
      is = rw limit at made

      -- it is taken at a place that there is
      pub opened_there : p.place.0 < place_count
      opened_there =
          let r = rules_hold N ks after k.kept.rules in
          let l = live_placed after c.number (limits_hold N ks after r).long
          (lt-ltb 0 (numbered c.number (circuits after)) (omega (arith, k.kept.exact (λ y. bit (eqb y.number c.number)), bit_eq c.number c.number refl))) in
          let e : p.place.0 ≡ plan.taken = ap (λ (q : Planned). q.place.0) is.is in
          omega (arith, k.placed, e)

      listed_are : listed p.moves ≡ plan.moves
      listed_are = ap (λ (q : Planned). listed q.moves) is.is ∙ listed_moves plan.moves k.few

      module _ (rests₁ : List ℕ) (replaces : Replaces (listed p.moves) keys rests h.count rests₁) where
        moved_lists : Lists (replaced_all plan.moves (entries chs)) keys rests₁ h.count
        moved_lists =
            (rw listed_are at replaces).after (entries chs) (entries_single N ks chs facts) (moved_there N ks chs facts c after plan.taken plan.moves k) lists

        pub moved_listed : Listed keys rests₁ h.count
        moved_listed = record { es = replaced_all plan.moves (entries chs); lists = moved_lists }

        pub moved_room : h.count < most_circuits
        moved_room = room

        pub moved_byte : h.count + 1 < 256
        moved_byte = omega (arith, room)

        module _ (keys' rests' : List ℕ) (files : Files (record { place = p.place.0; circuit = c } ∷ []) keys rests₁ h.count keys' rests' (h.count + 1)) where
          filed_lists : Lists (filed (record { place = p.place.0; circuit = c }) (replaced_all plan.moves (entries chs))) keys' rests' (h.count + 1)
          filed_lists = files.after (replaced_all plan.moves (entries chs)) moved_lists

          taken_is : p.place.0 ≡ plan.taken
          taken_is = ap (λ (q : Planned). q.place.0) is.is

          typed : Typed after
          typed = opened_typed chs H.holds.typed c after (λ w. omega (arith, k.kept.exact w)) (new_fields p.place.0 c (replaced_all plan.moves (entries chs)) filed_lists.written)

          -- the lists hold the table after it
          pub opened_lists : Lists (entries after) keys' rests' (h.count + 1)
          opened_lists =
              rw (opened_entries N ks chs facts c after plan.taken plan.moves k typed, ← taken_is) filed_lists

          pub opened_answer : OpensIn (placing t c) keys' rests'
              (record { heading = record { ports = h.ports; nodes = h.nodes; count = h.count + 1 }; answer = Ok (record { place = p.place; moves = p.moves.count; looks = p.looks }); moves = p.moves })
          opened_answer = record {
            answer = rw (planned_count N (limit_of ks) chs c p is.is) (answers is.is);
            moves = ap (λ (q : Planned). q.moves) is.is;
            after = record {
              nodes = H.nodes;
              ports = H.ports;
              holds = lists_holds N ks after keys' rests' (h.count + 1) k.kept.rules opened_lists;
            };
          }
            where
              answers : p ≡ planned_of plan
                  → ◌≡◌ {A = Opening} (Ok (record { place = p.place; moves = length plan.moves; looks = p.looks })) (Ok (record { place = record { 0 = plan.taken }; moves = length plan.moves; looks = plan.looks }))
              answers e = λ i. Ok (record { place = (e i).place; moves = length plan.moves; looks = (e i).looks })

  -- a refusal changes nothing
  pub opened_refused : (r : Refusal) → OpensIn (refusing t r) keys rests (record { heading = h; answer = Err r; moves = none })
  opened_refused r = record { answer = refl; moves = refl; after = H }

  module _ (c : Circuit) where
    -- one that the ports permit is ready for the steps
    pub placed_ready : Allowable N ks chs c → (m : ℕ) → m ≡ limit_of ks → Ready N m chs c
    placed_ready may m limit = placing_ready t H.holds.rules c may m limit

    -- by what is in use
    module _ (w : Verdict) (in_use : w ≡ judged (used_causes t c)) where
      pub named_served : (keys' rests' : List ℕ) (o : OpenedIn) → w ≡ Ok tt → OpensIn (placing t c) keys' rests' o
          → OpensIn (decided_by t c (judged (used_causes t c))) keys' rests' o
      named_served keys' rests' o e f = rw (← in_use, e) f

      pub named_refused : (r : Refusal) (o : OpenedIn) → w ≡ Err r → o ≡ record { heading = h; answer = Err r; moves = none }
          → OpensIn (decided_by t c (judged (used_causes t c))) keys rests o
      named_refused r o e f = rw (← in_use, e, f) (opened_refused r)

    -- by the nodes that the request names
    module _ (n : ℕ) (v : Verdict) (is : v ≡ judged ((ShortList if ltb n least_records) ∷ named_causes N c)) where
      pub open_named : v ≡ Ok tt → judged (named_causes N c) ≡ Ok tt
      open_named e = named_granted N c n v is e

      pub open_served : (keys' rests' : List ℕ) (o : OpenedIn) → v ≡ Ok tt → OpensIn (decided_by t c (judged (used_causes t c))) keys' rests' o
          → OpensIn (decide_of t c n) keys' rests' o
      open_served keys' rests' o e f =
          subst (λ (d : Decision). OpensIn d keys' rests' o)
          (decide_granted t c n H.holds.rules v (decided_by t c (judged (used_causes t c))) is e refl) f

      pub open_refused : (r : Refusal) (o : OpenedIn) → v ≡ Err r → o ≡ record { heading = h; answer = Err r; moves = none }
          → OpensIn (decide_of t c n) keys rests o
      open_refused r o e f =
          rw f (subst (λ (d : Decision). OpensIn d keys rests (record { heading = h; answer = Err r; moves = none }))
          (decide_refused t c n H.holds.rules v r (refusing t r) is e refl) (opened_refused r))

  module _ (n : ℕ) where
    -- as many keys are in use as there are entries
    used : length (take h.count keys) ≡ h.count
    used = length-take-le h.count keys within_keys

    -- a number that no entry has is not live
    pub closed_missed : numbered_at n (take h.count keys) ≡ length (take h.count keys) → ClosesIn (close_of t n) keys rests (record { heading = h; verdict = Err NotLive })
    unfolding close_of
    closed_missed none =
        let place = taken_number n (entries chs) keys rests h.count h.count lists (sym (none ∙ used)) in
        let z : numbered n (circuits chs) ≡ 0 =
        omega (arith, entries_circuits chs (λ x. bit (eqb x.number n)), found_none n (entries chs) (omega (arith, place, lists.counted))) in
        let dead : live chs n ≡ false = le-ltb 0 (numbered n (circuits chs)) (omega (arith, z)) in
        subst (λ (a : Answered). ClosesIn a keys rests (record { heading = h; verdict = Err NotLive }))
        (rw (H.holds.rules, dead)) (record { verdict = refl; after = H })

    -- another is taken out
    module _ (at : ℕ) (found : (at ≡ numbered_at n (take h.count keys)) × (at < length (take h.count keys))) where
      place : at ≡ first_place (λ e. eqb (number_in e) n) (entries chs)
      place = taken_number n (entries chs) keys rests h.count at lists found.0

      pub closed_within : at < h.count
      closed_within = omega (arith, found.1, used)

      alive : live chs n ≡ true
      alive =
          lt-ltb 0 (numbered n (circuits chs))
          (omega (arith, entries_circuits chs (λ x. bit (eqb x.number n)), found_some n (entries chs) (omega (arith, place, closed_within, lists.counted))))

      kept : Kept N ks chs (circuit_of chs n ∷ []) [] (closed chs n) []
      kept = closes N ks chs facts n alive

      pub closed_found : (keys' rests' : List ℕ) → keys' ≡ take_out at h.count keys → rests' ≡ take_out at h.count rests
          → ClosesIn (close_of t n) keys' rests' (record { heading = record { ports = h.ports; nodes = h.nodes; count = h.count - 1 }; verdict = Ok tt })
      unfolding close_of
      closed_found keys' rests' a b =
          subst (λ (x : Answered). ClosesIn x keys' rests' (record { heading = record { ports = h.ports; nodes = h.nodes; count = h.count - 1 }; verdict = Ok tt }))
          (rw (H.holds.rules, alive))
          (record {
            verdict = refl;
            after = record {
              nodes = H.nodes;
              ports = H.ports;
              holds = lists_holds N ks (closed chs n) keys' rests' (h.count - 1) kept.rules after_lists;
            };
          })
        where
          number : (circuit_of chs n).number ≡ n
          number = circuit_number chs n (live_placed chs n (limits_hold N ks chs facts).long alive)

          typed : Typed (closed chs n)
          typed = typed_weight (closed chs n) (omega (arith, kept.exact (λ x. bit (not (in_fields x))), weight_typed chs H.holds.typed))

          same : entries (closed chs n) ≡ without_at at (entries chs)
          same =
              closed_entries N ks chs facts n (circuit_of chs n) number (closed chs n) kept typed (omega (arith, place, closed_within, lists.counted))
              ∙ ap (λ i. without_at i (entries chs)) (sym place)

          fewer : length (without_at at (entries chs)) ≡ h.count - 1
          fewer = omega (arith, lists.counted, without_length at (entries chs) (omega (arith, closed_within, lists.counted)))

          after_lists : Lists (entries (closed chs n)) keys' rests' (h.count - 1)
          after_lists = rw (same, a, b, ← fewer) (lists_without (entries chs) keys rests h.count at lists closed_within)

-- the places that were built are those of the entries
module _ (N m : ℕ) (keys rests : List ℕ) (count : ℕ) (c : Circuit) (built : Channels) (is : built ≡ places_of keys rests count) where
  pub built_ready : Ready N m (places_of keys rests count) c → Ready N m built c
  built_ready r = rw is r

  pub built_joined : m ≤ join_place N m (places_of keys rests count) c → m ≤ join_place N m built c
  built_joined l = rw is l

  pub built_unlit : m ≤ unlit_place N m (places_of keys rests count) c → m ≤ unlit_place N m built c
  built_unlit l = rw is l

  pub built_plans : (p : Planned) → Plans (plan_of N m built c) p → Plans (plan_of N m (places_of keys rests count) c) p
  built_plans p d = rw is at d

-- a refusal by value
pub refused_in : (h : Heading) (r : Refusal) (ms : Moves) → ms ≡ none
    → ◌≡◌ {A = OpenedIn} (record { heading = h; answer = Err r; moves = ms }) (record { heading = h; answer = Err r; moves = none })
refused_in h r ms e = rw e

-- for `search (rules, planning)`
pub ruleset planning = (built_ready, built_joined, built_unlit, built_plans)

-- for `search (rules, opening)`
pub ruleset opening = (open_named, open_served, open_refused)

-- for `search (rules, placed)`
pub ruleset placed = (within_keys, within_rests, placed_ready, opened_there, moved_listed, moved_room, moved_byte, opened_answer)

-- for `search (rules, closing)`
pub ruleset closing = (within_keys, within_rests, closed_within, closed_missed, closed_found)
