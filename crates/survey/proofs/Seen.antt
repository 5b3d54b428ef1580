-- The pass over the places: what it has seen from a place on, and what steps 1 and 2 take from it. Assumes nothing.
use Prim.Native.Nat.{ℕ, suc, ◌+◌, ◌-◌, ◌≤◌, ◌<◌}
use mathlib.Core.Path.{◌≡◌, refl, sym, ◌∙◌}
use mathlib.Core.Bool.{Bool, true, false, ◌&&◌}
use mathlib.Core.List.{[]}
use native.Mathlib.Decide.{dec_lt}
use native.Mathlib.Omega.{arith}
use lib.Dec.{eqb, ltb}
use lib.ListN.{length, drop, drop_of_length-le}
use borrow.Author.Tests.{lt-ltb, le-ltb}
use Rattle.basis.specs.Choice.{pick, bit}
use Rattle.basis.specs.Count.{tally}
use Rattle.basis.proofs.Arrays.{array_length}
use Rattle.basis.proofs.Weigh.{bit_most}
use Rattle.basis.proofs.Descent.{Lowest, lowest_start, lowest_next, lowest_end}
use Rattle.limits.specs.Limits.{place_count}
use Rattle.lightpath.specs.Place.{other_way}
use Rattle.lightpath.specs.Circuit.{blank_circuit, shorter_way}
use Rattle.lightpath.specs.declared.Direction.{Direction}
use Rattle.lightpath.specs.declared.Circuit.{Circuit}
use Rattle.slots.specs.Slot.{held, first_of}
use Rattle.lit_words.specs.Unlit.{unlit_in}
use Rattle.lit_words.specs.With.{with_place}
use Rattle.lit_words.proofs.Built.{Built, built_start, built_room, built_skip, built_next, built_end}
use Rattle.channels.specs.Channels.{Channels, at, circuits, numbered, lit_at}
use Rattle.channels.specs.Nonsharing.{standing_at}
use Rattle.channels.proofs.Places.{weigh_from, weigh_most}
use Rattle.channels.proofs.LitPlaces.{unlit_words}
use Rattle.ports_used.specs.PortsUsed.{sends, receives}
use Rattle.steps.specs.Steps.{can_join, join_place, unlit_place}
use Rattle.survey.specs.Survey.{Survey, Pass, standing_below, survey_of, unlit_seen, pass_with, Takes}

-- a count of the places from p on, with the place under them
count_next : (key : Circuit → ℕ) (k : ℕ) (t : Channels) (p n : ℕ) → n ≡ tally key k (circuits (drop p t)) → 0 < p → p ≤ length t
    → n + tally key k (held (at t (p - 1))) ≡ tally key k (circuits (drop (p - 1) t))
count_next key k t p n e h l =
    let s : suc (p - 1) ≡ p = omega arith in
    omega (arith, e, rw s at (weigh_from t (λ c. bit (eqb (key c) k)) (p - 1) (omega arith)))

-- two passes are one where their fields are
fields : (v w : Pass) → v.numbered ≡ w.numbered → v.sent ≡ w.sent → v.received ≡ w.received → v.join ≡ w.join → v.lit ≡ w.lit → v ≡ w
fields v w a b d e f = same
  where
    same : ◌≡◌ {A = Pass} (record { numbered = v.numbered; sent = v.sent; received = v.received; join = v.join; lit = v.lit })
        (record { numbered = w.numbered; sent = w.sent; received = w.received; join = w.join; lit = w.lit })
    same = rw (a, b, d, e, f)

-- a place, or the limit where that is lower
abbrev pub lower : ℕ → ℕ → ℕ
lower p m = pick (ltb p m) p m

module _ (N m : ℕ) (t : Channels) (c : Circuit) where
  -- what was seen of the places from p on
  pub record Seen (p : ℕ) (v : Pass) : Type 0 where
    pub numbers : v.numbered ≡ numbered c.number (circuits (drop p t))
    pub sources : v.sent ≡ sends c.source (circuits (drop p t))
    pub destinations : v.received ≡ receives c.destination (circuits (drop p t))
    pub lowest : Lowest (λ q. can_join N c q (at t q)) m (lower p m) v.join
    pub words : Built (lit_at t) p v.lit

module _ (N m : ℕ) (t : Channels) (c : Circuit) (long : length t ≡ place_count) (low : m ≤ place_count) where
  -- nothing seen
  abbrev nothing : Pass
  nothing = record { numbered = 0; sent = 0; received = 0; join = m; lit = record { low = 0; high = 0 } }

  -- the start of the pass, above the highest place
  pub seen_start : Seen N m t c place_count nothing
  seen_start = record {
    numbers = rw none;
    sources = rw none;
    destinations = rw none;
    lowest = rw (le-ltb place_count m low) (lowest_start _ m);
    words = built_start;
  }
    where
      none : drop place_count t ≡ []
      none = drop_of_length-le t {i = place_count} (omega arith)

  module _ (p : ℕ) (v : Pass) (s : Seen N m t c p v) (h : 0 < p) (k : p ≤ place_count) where
    -- there is room for a place more
    pub seen_room : Takes v (p - 1)
    seen_room = record {
      numbered = omega (arith, s.numbers, weigh_most t _ p (λ x. bit_most (eqb x.number c.number)));
      sent = omega (arith, s.sources, weigh_most t _ p (λ x. bit_most (eqb x.source c.source)));
      received = omega (arith, s.destinations, weigh_most t _ p (λ x. bit_most (eqb x.destination c.destination)));
      lit = built_room p v.lit s.words h k;
    }

    -- and it is seen too
    pub seen_next : (r : Pass) → r ≡ pass_with N m c (p - 1) (at t (p - 1)) v → Seen N m t c (p - 1) r
    seen_next r e = rw e (record {
      numbers = count_next (λ c. c.number) c.number t p v.numbered s.numbers h (omega arith);
      sources = count_next (λ c. c.source) c.source t p v.sent s.sources h (omega arith);
      destinations = count_next (λ c. c.destination) c.destination t p v.received s.destinations h (omega arith);
      lowest = found (dec_lt (p - 1) m);
      words = lit (lit_at t (p - 1)) refl;
    })
      where
        found : Dec (p - 1 < m)
            → Lowest (λ q. can_join N c q (at t q)) m (lower (p - 1) m) (pick (ltb (p - 1) m && can_join N c (p - 1) (at t (p - 1))) (p - 1) v.join)
        found (yes l) =
            let was : lower p m ≡ p = lowers (dec_lt p m) l in
            rw (lt-ltb (p - 1) m l) (lowest_next _ m p v.join (rw was at s.lowest) h)
          where
            lowers : Dec (p < m) → p - 1 < m → lower p m ≡ p
            lowers (yes a) b = rw (lt-ltb p m a)
            lowers (no a) b = rw (le-ltb p m (omega arith)) (omega arith)
        found (no n) =
            let was : lower p m ≡ m = rw (le-ltb p m (omega arith)) in
            rw (le-ltb (p - 1) m (omega arith)) (rw was at s.lowest)

        lit : (b : Bool) → lit_at t (p - 1) ≡ b → Built (lit_at t) (p - 1) (pick b (with_place v.lit (p - 1)) v.lit)
        lit true y = built_next p v.lit s.words h k true _ (sym y) refl refl
        lit false y = built_skip p v.lit s.words h k false (sym y) refl

  -- at its end the place to join is step 1's
  pub seen_place : (p : ℕ) (v : Pass) → Seen N m t c p v → p ≤ 0 → v.join ≡ join_place N m t c
  seen_place p v s h =
      let z : p ≡ 0 = omega arith in
      lowest_end _ m (lower p m) v.join s.lowest (rw z (least (dec_lt 0 m)))
    where
      least : Dec (0 < m) → lower 0 m ≤ 0
      least (yes l) = rw (lt-ltb 0 m l) (omega arith)
      least (no n) = rw (le-ltb 0 m (omega arith)) (omega arith)

  -- and the survey is made, with the circuit there, where there is one
  module _ (p : ℕ) (v : Pass) (s : Seen N m t c p v) (h : p ≤ 0) where
    abbrev made : Circuit → Survey
    made x = record { numbered = v.numbered; sent = v.sent; received = v.received; join = record { place = v.join; circuit = x }; lit = v.lit }

    is : (x : Circuit) → record { place = v.join; circuit = x } ≡ standing_below m t v.join → made x ≡ survey_of N m t c
    is x e =
        let z : p ≡ 0 = omega arith in
        let q : Seen N m t c 0 v = rw z at s in
        rw (e, seen_place p v s h, q.numbers, q.sources, q.destinations, built_end 0 v.lit q.words (omega arith))

    pub seen_joined : (x : Circuit) → v.join < m → x ≡ first_of (at t v.join) → made x ≡ survey_of N m t c
    seen_joined x l e = is x (rw (lt-ltb v.join m l, e))

    pub seen_none : (x : Circuit) → m ≤ v.join → x ≡ blank_circuit → made x ≡ survey_of N m t c
    seen_none x l e = is x (rw (le-ltb v.join m l, e) (let e : v.join ≡ m = omega (arith, s.lowest.most) in rw e))

-- for `search (rules, seen)`
pub ruleset seen = (array_length, seen_start, seen_room, seen_next, seen_joined, seen_none)

-- step 2's place by the words: the lowest unlit one of the shorter way, else of the other
module _ (N m : ℕ) (c : Circuit) (v : Survey) (d : Direction) (p : ℕ) (way : d ≡ shorter_way N c) (near : p ≡ unlit_in v.lit d m) where
  pub unlit_near : p < m → p ≡ unlit_seen N m c v
  unfolding unlit_seen
  unlit_near l = rw (← way, ← near, lt-ltb p m l)

  pub unlit_far : (e : Direction) (q : ℕ) → m ≤ p → e ≡ other_way d → q ≡ unlit_in v.lit e m → q ≡ unlit_seen N m c v
  unfolding unlit_seen
  unlit_far e q l o far = rw (← way, ← near, le-ltb p m l, ← o) far

-- what steps 1 and 2 take from the survey
module _ (N m : ℕ) (t : Channels) (c : Circuit) (v : Survey) (e : v ≡ survey_of N m t c) where
  -- step 1's circuit, where there is one
  pub seen_join : v.join.place < m → (join_place N m t c < m) × (v.join ≡ standing_at t (join_place N m t c))
  seen_join l = go (dec_lt (join_place N m t c) m)
    where
      go : Dec (join_place N m t c < m) → (join_place N m t c < m) × (v.join ≡ standing_at t (join_place N m t c))
      go (yes k) = (k, rw (e, lt-ltb (join_place N m t c) m k))
      go (no n) =
          let none : v.join.place ≡ m = rw (e, le-ltb (join_place N m t c) m (omega arith)) in
          absurd (omega arith)

  -- and where there is none
  pub seen_alone : m ≤ v.join.place → m ≤ join_place N m t c
  seen_alone l = go (dec_lt (join_place N m t c) m)
    where
      go : Dec (join_place N m t c < m) → m ≤ join_place N m t c
      go (yes k) =
          let is : v.join.place ≡ join_place N m t c = rw (e, lt-ltb (join_place N m t c) m k) in
          omega arith
      go (no n) = omega arith

  -- step 2's place
  pub seen_unlit : m ≤ place_count → (u : ℕ) → u ≡ unlit_seen N m c v → u ≡ unlit_place N m t c
  unfolding unlit_place unlit_seen
  seen_unlit l u is = is ∙ rw (e, unlit_words t (shorter_way N c) m l, unlit_words t (other_way (shorter_way N c)) m l)
