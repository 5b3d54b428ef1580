-- A tidying midway: what is done so far, and what the rounds left make of it. Each law takes what the calls gave as it stands in the record of
-- a need, so that `search (rules, midway)` finds it. Assumes nothing.
use Prim.Native.Nat.{ℕ, suc, ◌+◌, ◌-◌, ◌*◌, ◌≤◌, ◌<◌, zero-le}
use mathlib.Core.Path.{◌≡◌, refl, sym, ap, subst, ◌∙◌}
use mathlib.Core.Bool.{Bool, true, false}
use mathlib.Core.List.{List, [], ◌++◌, append_assoc, append-nil}
use native.Mathlib.Omega.{arith}
use lib.ListN.{length, length-append}
use borrow.Author.Tests.{ltb-true}
use Rattle.std.specs.Prelude.{Some, None}
use Rattle.basis.specs.Choice.{pick}
use Rattle.basis.proofs.Arrays.{array_length}
use Rattle.basis.proofs.Bools.{and_right}
use Rattle.limits.specs.Limits.{place_count, tidy_records}
use Rattle.lightpath.specs.Circuit.{adjacent, share_direction}
use Rattle.channels.specs.Channels.{Channels}
use Rattle.channels.specs.Change.{puts}
use Rattle.channels.specs.Changes.{in_order}
use Rattle.channels.specs.declared.Standing.{Standing}
use Rattle.channels.proofs.Puts.{puts_length}
use Rattle.moves.specs.Records.{listed}
use Rattle.moves.specs.MoveList.{list_of}
use Rattle.moves.specs.Appends.{Appends}
use Rattle.moves.specs.declared.Move.{Move}
use Rattle.moves.specs.declared.MoveList.{MoveList}
use Rattle.moves.proofs.Listed.{listed_moves}
use Rattle.moves.proofs.Appending.{append_list}
use Rattle.steps.specs.Steps.{stands_right}
use Rattle.plan.proofs.ByValue.{carries}
use Rattle.tidying.specs.Round.{Round, to_member, to_unlit, joinable, can_round, round_pair, round_of, rounded}
use Rattle.tidying.specs.Tidying.{Tidying, tidy_within, most_rounds, tidy_up}
use Rattle.tidying.proofs.Choice.{round_pair_lem, round_joinable}
use Rattle.tidying.proofs.Pairs.{alone_count, alone_most, joining_settles, round_joining, round_lone}
use Rattle.tidying.proofs.Tidying.{untouched, tidied_already, tidied_on}
use Rattle.rounds.specs.Room.{Room, room_of, lowest_of}
use Rattle.rounds.specs.Joined.{Joined, join_in, Joins}
use Rattle.rounds.specs.Search.{Hit}
use Rattle.rounds.specs.Next.{Next, PassedBy, Finds}
use Rattle.rounds.specs.Tidied.{TidiedPlaces, tidied_places, CanGoOn, After}
use Rattle.rounds.proofs.Passing.{room_is, passed_none, passed_on}

-- a round is of two or three changes and one or two moves
record Small (r : Round) : Type 0 where
  least : 1 ≤ length r.changes
  most : length r.changes ≤ 3
  few : length r.moves ≤ 2

small_of : (b : Bool) (p q : Round) → Small p → Small q → Small (pick b p q)
small_of true p q h k = h
small_of false p q h k = k

join_small : (N : ℕ) (room : Room) (a b : Standing) → Small (join_in N room a b)
join_small N room a b =
    let p = lowest_of room (share_direction N a.circuit b.circuit) in
    small_of (stands_right N a b a) (to_member a b) (pick (stands_right N a b b) (to_member b a) (to_unlit p a b))
    (record { least = omega arith; most = omega arith; few = omega arith })
    (small_of (stands_right N a b b) (to_member b a) (to_unlit p a b) (record { least = omega arith; most = omega arith; few = omega arith })
    (record { least = omega arith; most = omega arith; few = omega arith }))

-- One round more: `carry_out`.
module _ (N : ℕ) (room : Room) (a b : Standing) (j : Joined) (h : Joins (join_in N room a b) j) where
  -- there is room for its moves
  pub round_room : (k : ℕ) → k + 2 ≤ tidy_records → k + length (listed j.moves) ≤ tidy_records
  round_room k l =
      let s = join_small N room a b in
      rw (h.is, listed_moves (join_in N room a b).moves (omega (arith, s.few))) (omega (arith, s.few))

  -- the places are changed and the moves appended
  pub round_after : (r : TidiedPlaces) (t : Channels) (ms : MoveList) → t ≡ puts (in_order j.changes) r.channels → Appends r.moves (listed j.moves) ms
      → After (join_in N room a b) r (record { channels = t; rounds = r.rounds + 1; moves = ms })
  round_after r t ms e f =
      let s = join_small N room a b in
      record {
        places = e ∙ rw h.is (carries (join_in N room a b).changes r.channels s.least s.most);
        rounds = refl;
        moves = rw (h.is, listed_moves (join_in N room a b).moves (omega (arith, s.few))) at f;
      }

pub ruleset carrying = (array_length, round_room, round_after)

-- the rounds left, after what is done so far
abbrev after : List Move → ℕ → Tidying → Tidying
after ms k o = record { places = o.places; rounds = k + o.rounds; moves = ms ++ o.moves }

-- midway, from the places t: so many rounds are done, of at most two moves each, and those left complete the tidying
pub record Midway (N m : ℕ) (t : Channels) (r : TidiedPlaces) : Type 0 where
  pub done : List Move
  pub moves : r.moves ≡ list_of done
  pub short : length done ≤ 2 * r.rounds
  pub whole : tidy_up N m t ≡ after done r.rounds (tidy_within (most_rounds - r.rounds) N m r.channels)
  pub few : 2 * r.rounds + alone_count r.channels ≤ place_count

-- at the start all is left
pub midway_start : (N m : ℕ) (t : Channels) (ms : MoveList) → length t ≡ place_count → ms ≡ list_of [] → Midway N m t (record { channels = t; rounds = 0; moves = ms })
midway_start N m t ms long e = record {
  done = [];
  moves = e;
  short = zero-le;
  whole = let n : (tidy_up N m t).rounds ≡ 0 + (tidy_up N m t).rounds = omega arith in λ i. record { places = (tidy_up N m t).places; rounds = n i; moves = (tidy_up N m t).moves };
  few = omega (arith, alone_most t);
}

module _ (N m : ℕ) (t : Channels) (r : TidiedPlaces) (next : Next) (low : m ≤ place_count) (long : length r.channels ≡ place_count)
    (half : Midway N m t r) (finds : Finds N m r.channels next) where
  -- where no round is found, the tidying is done
  pub midway_end : next.hit ≡ None → r ≡ tidied_places (tidy_up N m t)
  midway_end none = sym (ap tidied_places (half.whole ∙ ap (after half.done r.rounds) over) ∙ same)
    where
      over : tidy_within (most_rounds - r.rounds) N m r.channels ≡ untouched r.channels
      over = tidied_already (most_rounds - r.rounds) N m r.channels (sym finds.found ∙ rw none)

      same : tidied_places (after half.done r.rounds (untouched r.channels)) ≡ r
      same =
          let n : r.rounds + 0 ≡ r.rounds = omega arith in
          λ i. record { channels = r.channels; rounds = n i; moves = (ap list_of (append-nil half.done) ∙ sym half.moves) i }

  module _ (hit : Hit) (some : next.hit ≡ Some hit) where
    can : can_round N m r.channels ≡ true
    can = sym finds.found ∙ rw some

    within : m ≤ length r.channels
    within = omega arith

    -- two circuits fewer are alone after the round
    lone : alone_count (rounded N m r.channels) + 2 ≡ alone_count r.channels
    lone = round_lone N m r.channels within can

    -- the pair that is found is the round's, and what joining it does is what the round does
    join_is : join_in N next.room hit.first hit.second ≡ round_of N m r.channels
    join_is =
        rw (finds.room, finds.first hit some, finds.second hit some, room_is m r.channels (share_direction N (round_pair N m r.channels).0.circuit (round_pair N m r.channels).1.circuit))

    -- the round can be carried out
    pub can_go_on : 0 < N → CanGoOn N next.room hit r
    can_go_on nodes =
        let pair = round_pair_lem N m r.channels within can in
        let passes = round_joinable N m r.channels within can in
        record {
          pair = rw (finds.room, finds.first hit some, finds.second hit some) (record {
            nodes = nodes;
            first = omega (arith, pair.0.low);
            second = omega (arith, pair.1.low);
            unlit = λ e f. let u = unlit_there (round_pair N m r.channels).0 (round_pair N m r.channels).1 passes e f in omega arith;
          });
          records = rw half.moves (omega (arith, half.short, half.few, lone));
          few = omega (arith, half.few, lone);
        }
      where
        unlit_there : (a b : Standing) → joinable N m r.channels (a, b) ≡ true → stands_right N a b a ≡ false → stands_right N a b b ≡ false
            → lowest_of (room_of m r.channels) (share_direction N a.circuit b.circuit) < m
        unlit_there a b h e f =
            rw (room_is m r.channels (share_direction N a.circuit b.circuit))
            (ltb-true _ _ (and_right (adjacent a.circuit b.circuit) _ (rw (e, f) at h)))

    module _ (r' : TidiedPlaces) (a : After (join_in N next.room hit.first hit.second) r r') where
      -- the places are those after the round
      now : r'.channels ≡ rounded N m r.channels
      now = a.places ∙ ap (λ round. puts round.changes r.channels) join_is

      -- there are as many as before
      pub still_long : length r'.channels ≡ place_count
      still_long = ap length now ∙ puts_length (round_of N m r.channels).changes r.channels ∙ long

      -- two circuits fewer are alone
      pub fewer_alone : alone_count r'.channels < alone_count r.channels
      fewer_alone = rw now (omega (arith, lone))

      -- what was passed by still is
      pub passed_next : PassedBy N m r'.channels next.room hit.first.place
      passed_next =
          rw now
          (passed_on N m r.channels (rounded N m r.channels) next.room hit.first.place low
          (joining_settles r.channels (round_of N m r.channels).changes (round_joining N m r.channels within can) long) (finds.passed hit some))

      -- and the tidying is one round further
      pub midway_next : Midway N m t r'
      midway_next = record {
        done = half.done ++ ms;
        moves =
            append_list half.done ms r'.moves (omega (arith, half.short, half.few, lone, small))
            (rw (half.moves, join_is) at a.moves);
        short = rw (length-append half.done ms, a.rounds) (omega (arith, half.short, small));
        whole = half.whole ∙ ap (after half.done r.rounds) onward ∙ regroup;
        few = rw (now, a.rounds) (omega (arith, half.few, lone));
      }
        where
          ms : List Move
          ms = (round_of N m r.channels).moves

          small : length ms ≤ 2
          small = subst (λ round. length round.moves ≤ 2) join_is (join_small N next.room hit.first hit.second).few

          left : Tidying
          left = tidy_within (most_rounds - r'.rounds) N m (rounded N m r.channels)

          onward : tidy_within (most_rounds - r.rounds) N m r.channels ≡ record { places = left.places; rounds = suc left.rounds; moves = ms ++ left.moves }
          onward =
              let e : most_rounds - r.rounds ≡ suc (most_rounds - r'.rounds) = omega (arith, a.rounds, half.few, lone) in
              rw e (tidied_on (most_rounds - r'.rounds) N m r.channels can)

          regroup : after half.done r.rounds (record { places = left.places; rounds = suc left.rounds; moves = ms ++ left.moves })
              ≡ after (half.done ++ ms) r'.rounds (tidy_within (most_rounds - r'.rounds) N m r'.channels)
          regroup =
              let e : r.rounds + suc left.rounds ≡ r'.rounds + left.rounds = omega (arith, a.rounds) in
              rw now (λ i. record { places = left.places; rounds = e i; moves = sym (append_assoc half.done ms left.moves) i })

pub ruleset midway = (array_length, midway_start, passed_none, midway_end, can_go_on, still_long, fewer_alone, passed_next, midway_next)
