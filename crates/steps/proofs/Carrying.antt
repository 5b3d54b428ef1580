-- Carrying out records: where the circuits are kept and the records name each that has moved, once and with both places, a host that takes
-- the listed circuits down and then sets each up at its new place, and the new ones at theirs, has the second table, whatever made the
-- records. Assumes nothing.
use Prim.Native.Nat.{ℕ, ◌+◌, ◌≤◌, ◌<◌}
use mathlib.Core.Path.{◌≡◌, refl, sym, ap, ◌∙◌}
use mathlib.Core.Logic.{◌≢◌}
use mathlib.Core.Bool.{Bool, true, false}
use mathlib.Core.List.{List, [], ◌∷◌, ◌++◌}
use native.Mathlib.Decide.{ℕ_discrete, dec_lt}
use native.Mathlib.Omega.{arith}
use lib.Dec.{eqb, ltb}
use lib.ListN.{length}
use borrow.Author.Tests.{eq-eqb, ne_eqb, ltb-true, ltb-false, lt-ltb}
use Rattle.basis.specs.Choice.{pick, bit}
use Rattle.basis.specs.Count.{weigh, tally, distinct, All}
use Rattle.basis.proofs.Bools.{bit_eq, bit_ne, all_map, all_and, all_join}
use Rattle.basis.proofs.Weigh.{weigh_append, weigh_same, weigh_balance, weigh_swap, none_weigh, bit_most, counted, by_key, distinct_most, most_distinct, keyed, keyed_each}
use Rattle.limits.specs.Limits.{place_count}
use Rattle.lightpath.specs.declared.Circuit.{Circuit}
use Rattle.slots.specs.Slot.{held}
use Rattle.slots.specs.declared.Slot.{Slot}
use Rattle.slots.specs.declared.Slot.TheVariants.{Unlit as unlit, Alone as alone, Shared as shared}
use Rattle.slots.proofs.Contents.{of_number, parted, named_weighs}
use Rattle.channels.specs.Channels.{Channels, at, circuits, numbered, live, where_is, circuit_of}
use Rattle.channels.specs.Change.{◌gets◌}
use Rattle.channels.specs.declared.Standing.{Standing}
use Rattle.channels.proofs.Puts.{Spared, whole}
use Rattle.channels.proofs.Numbers.{found_there, dead_nowhere, live_placed, stands_at_lem, one_place_lem, holds_each}
use Rattle.moves.specs.declared.Move.{Move}
use Rattle.rules.specs.Rules.{fits}
use Rattle.rules.proofs.Rules.{Rules, rules_hold, limits_hold}
use Rattle.rules.proofs.Fits.{couple}
use Rattle.steps.specs.Following.{taken_down, all_set_up, relocated, followed}
use Rattle.steps.specs.Kept.{Kept}
use Rattle.steps.specs.Moved.{moved, moved_to, Names}
use Rattle.steps.proofs.Placing.{Ordered, Rising, only_at, One, Each, all_placed, placed_at, placed_append, placed_is}
use Rattle.steps.proofs.Chain.{records_of, unmoved, named_once}

-- an amount for each element of key k, of which there is one or none
keyed_few : {A : Type 0} (f : A → ℕ) (k v : ℕ) (xs : List A) (b : Bool) → tally f k xs ≡ bit b → weigh (λ x. pick (eqb k (f x)) v 0) xs ≡ pick b v 0
keyed_few f k v [] true h = absurd (omega arith)
keyed_few f k v [] false h = refl
keyed_few f k v (x ∷ xs) b h = go (ℕ_discrete (f x) k) b h (keyed_few f k v xs)
  where
    go : Dec (f x ≡ k) → (b : Bool) → tally f k (x ∷ xs) ≡ bit b → ((b : Bool) → tally f k xs ≡ bit b → weigh (λ x. pick (eqb k (f x)) v 0) xs ≡ pick b v 0)
        → weigh (λ x. pick (eqb k (f x)) v 0) (x ∷ xs) ≡ pick b v 0
    go (yes e) true h rest = rw (eq-eqb k (f x) (sym e)) (omega (arith, rest false (omega (arith, bit_eq (f x) k e))))
    go (yes e) false h rest = absurd (omega (arith, bit_eq (f x) k e))
    go (no n) b h rest = rw (ne_eqb k (f x) (λ e. n (sym e))) (omega (arith, rest b (omega (arith, bit_ne (f x) k n))))

-- an amount by key has the same sum over a list as over one with distinct keys, of which it has some
pub weigh_some : {A B : Type 0} (f : A → ℕ) (g : B → ℕ) (xs : List A) (ys : List B) (b : B → Bool) (v : ℕ → ℕ) → distinct g ys ≡ true
    → All (λ x. 0 < tally g (f x) ys) xs → All (λ y. tally f (g y) xs ≡ bit (b y)) ys
    → weigh (λ x. v (f x)) xs ≡ weigh (λ y. pick (b y) (v (g y)) 0) ys
weigh_some f g xs ys b v apart some few =
    weigh_same (λ x. v (f x)) (λ x. weigh (keyed g (f x) (λ y. v (g y))) ys) xs (all_map _ _ one xs some)
    ∙ weigh_swap (λ x y. keyed g (f x) (λ y. v (g y)) y) xs ys
    ∙ weigh_same _ _ ys (all_map _ _ (λ y h. keyed_few f (g y) (v (g y)) xs (b y) h) ys few)
  where
    one : (x : _) → 0 < tally g (f x) ys → v (f x) ≡ weigh (keyed g (f x) (λ y. v (g y))) ys
    one x l = sym (by_key g (λ k. weigh (keyed g k (λ y. v (g y))) ys ≡ v k) ys (keyed_each g (λ y. v (g y)) ys apart) (f x) l)

-- a circuit's amount at the place where its number stands
abbrev pub stands_at : Channels → ℕ → (Circuit → ℕ) → Circuit → ℕ
stands_at t q w x = only_at (where_is t x.number) q (w x)

module _ (t : Channels) (numbers : distinct (λ c. c.number) (circuits t) ≡ true) (long : length t ≡ place_count) where
  -- a place weighs what the circuits do that stand there
  pub place_weighs : (w : Circuit → ℕ) (q : ℕ) → q < place_count → weigh (stands_at t q w) (circuits t) ≡ weigh w (held (at t q))
  place_weighs w q l =
      omega (
        arith,
        whole (stands_at t q w) ((q gets unlit) ∷ []) t (tt, tt) (rw long l, tt) elsewhere,
        weigh_same (stands_at t q w) w (held (at t q)) (all_map _ _ here (held (at t q)) (counted (λ c. c.number) (held (at t q)))),
      )
    where
      here : (x : Circuit) → 0 < numbered x.number (held (at t q)) → stands_at t q w x ≡ w x
      here x h = rw (stands_at_lem t numbers x.number q l h, eq-eqb q q refl)

      elsewhere : (p : ℕ) → p < length t → Spared ((q gets unlit) ∷ []) p → weigh (stands_at t q w) (held (at t p)) ≡ 0
      elsewhere p i d = none_weigh _ (held (at t p)) (all_map _ _ there (held (at t p)) (counted (λ c. c.number) (held (at t p))))
        where
          there : (x : Circuit) → 0 < numbered x.number (held (at t p)) → stands_at t q w x ≡ 0
          there x h = rw (stands_at_lem t numbers x.number p (rw long at i) h, ne_eqb p q d.0)

  -- a live number names one circuit, at its place
  pub one_found : (k : ℕ) → live t k ≡ true → One (circuit_of t k) t k (where_is t k)
  one_found k l =
      let placed = live_placed t k long l in
      record {
        within = rw long placed;
        number = (parted k (at t (where_is t k)) (found_there t k placed)).number;
        stood =
            λ w. named_weighs w k (at t (where_is t k))
            (omega (arith, one_place_lem t numbers k (where_is t k) placed, bit_eq (where_is t k) (where_is t k) refl));
      }

-- what fits at a place is in order there
fits_rising : (N q : ℕ) (s : Slot) → fits N q s ≡ true → Rising s
fits_rising N q unlit h = tt
fits_rising N q (alone a) h = tt
fits_rising N q (shared a b) h = (couple N q a b h).order

rising_ordered : (s : Slot) → Rising s → Ordered s
rising_ordered unlit h = tt
rising_ordered (alone a) h = tt
rising_ordered (shared a b) h = omega arith

-- the circuits of the records at their new places, and new ones at theirs
abbrev landing : Channels → List Move → List Standing
landing t [] = []
landing t (m ∷ ms) = record { place = m.to.0; circuit = circuit_of t m.number } ∷ landing t ms

abbrev pub arriving : Channels → List Circuit → List Standing
arriving t' [] = []
arriving t' (c ∷ cs) = record { place = where_is t' c.number; circuit = c } ∷ arriving t' cs

landing_up : (t : Channels) (ms : List Move) (u : Channels) → all_set_up t ms u ≡ all_placed (landing t ms) u
landing_up t [] u = refl
landing_up t (m ∷ ms) u = landing_up t ms _

landing_weighs : (t t' : Channels) (w : Circuit → ℕ) (q : ℕ) (ms : List Move) → All (Names t t') ms
    → placed_at w q (landing t ms) ≡ weigh (λ m. only_at (where_is t' m.number) q (w (circuit_of t m.number))) ms
landing_weighs t t' w q [] h = refl
landing_weighs t t' w q (m ∷ ms) h = rw (h.0.now, landing_weighs t t' w q ms h.1)

landing_all : (t : Channels) (P : ℕ → Type 0) (ms : List Move) → All (λ m. P m.to.0) ms → All (λ n. P n.place) (landing t ms)
landing_all t P [] h = tt
landing_all t P (m ∷ ms) h = (h.0, landing_all t P ms h.1)

arriving_weighs : (t' : Channels) (w : Circuit → ℕ) (q : ℕ) (cs : List Circuit) → placed_at w q (arriving t' cs) ≡ weigh (stands_at t' q w) cs
arriving_weighs t' w q [] = refl
arriving_weighs t' w q (c ∷ cs) = omega (arith, arriving_weighs t' w q cs)

arriving_all : (t' : Channels) (P : ℕ → Type 0) (cs : List Circuit) → All (λ c. P (where_is t' c.number)) cs → All (λ n. P n.place) (arriving t' cs)
arriving_all t' P [] h = tt
arriving_all t' P (c ∷ cs) h = (h.0, arriving_all t' P cs h.1)

-- the records of circuits that go for good; such a record names no new place, and nothing is set up by it
abbrev pub leaving : Channels → List Circuit → List Move
leaving t [] = []
leaving t (x ∷ xs) = record { number = x.number; from = record { 0 = where_is t x.number }; to = record { 0 = place_count } } ∷ leaving t xs

leaving_tally : (t : Channels) (k : ℕ) (xs : List Circuit) → records_of k (leaving t xs) ≡ numbered k xs
leaving_tally t k [] = refl
leaving_tally t k (x ∷ xs) = omega (arith, leaving_tally t k xs)

-- they say where each stands, and what holds of each number holds of each record's
leaving_old : (t : Channels) (xs : List Circuit) → All (λ m. m.from.0 ≡ where_is t m.number) (leaving t xs)
leaving_old t [] = tt
leaving_old t (x ∷ xs) = (refl, leaving_old t xs)

leaving_all : (t : Channels) (P : ℕ → Type 0) (xs : List Circuit) → All (λ x. P x.number) xs → All (λ m. P m.number) (leaving t xs)
leaving_all t P [] h = tt
leaving_all t P (x ∷ xs) h = (h.0, leaving_all t P xs h.1)

-- the circuits gone stand in the first table, each once, and their numbers in the second no more
pub record Goes (t t' : Channels) (gone : List Circuit) : Type 0 where
  pub were : All (λ x. 0 < numbered x.number (circuits t)) gone
  pub ended : All (λ x. numbered x.number (circuits t') ≡ 0) gone
  pub single : distinct (λ x. x.number) gone ≡ true

pub none_goes : (t t' : Channels) → Goes t t' []
none_goes t t' = record { were = tt; ended = tt; single = refl }

-- a circuit at p is at r afterwards: it is set up there where b says so and taken down where d does
crossing : (p r q v u : ℕ) (b d : Bool) → u ≡ v → (b ≡ true → d ≡ true) → (b ≡ false → d ≡ false → r ≡ p) → (b ≡ false → d ≡ true → r ≢ q)
    → only_at p q v + pick b (only_at r q u) 0 ≡ only_at r q v + pick d (only_at p q u) 0
crossing p r q v u true true e down still off = rw e (omega arith)
crossing p r q v u true false e down still off = cc (down refl)
crossing p r q v u false true e down still off = rw (e, ne_eqb r q (off refl refl)) (omega arith)
crossing p r q v u false false e down still off = rw (still refl refl)

-- a number of at most 1 is counted by its test
one_bit : (n : ℕ) → n ≤ 1 → n ≡ bit (ltb 0 n)
one_bit n l = go (ltb 0 n) refl
  where
    go : (o : Bool) → ltb 0 n ≡ o → n ≡ bit o
    go true e = omega (arith, ltb-true 0 n e)
    go false e = omega (arith, ltb-false 0 n e)

module _ (N : ℕ) (ks : List ℕ) (t : Channels) (gone new : List Circuit) (t' : Channels) (ms : List Move) (rules : Rules N ks t)
    (kept : Kept N ks t gone new t' ms) (goes : Goes t t' gone) where
  -- the records of all that are taken down
  abbrev downs : List Move
  downs = leaving t gone ++ ms

  -- the rules hold in both
  again : Rules N ks t'
  again = rules_hold N ks t' kept.rules

  long : length t ≡ place_count
  long = (limits_hold N ks t rules).long

  long' : length t' ≡ place_count
  long' = (limits_hold N ks t' again).long

  -- a number stands in the second table that is live there; one that has gone does not
  stands_then : (k : ℕ) → 0 < numbered k (circuits t') → where_is t' k < place_count
  stands_then k l = live_placed t' k long' (lt-ltb 0 (numbered k (circuits t')) l)

  none_then : (k : ℕ) → 0 < numbered k gone → numbered k (circuits t') ≡ 0
  none_then k l = by_key (λ x. x.number) (λ k. numbered k (circuits t') ≡ 0) gone goes.ended k l

  gone_nowhere : (k : ℕ) → 0 < numbered k gone → where_is t' k ≡ place_count
  gone_nowhere k l = dead_nowhere t' k (none_then k l)

  gone_unmoved : (k : ℕ) → 0 < numbered k gone → bit (moved_to t t' k) ≡ 0
  gone_unmoved k l = rw (gone_nowhere k l)

  -- new ones are never among those gone
  new_stays : (k : ℕ) → 0 < numbered k new → 0 < numbered k (circuits t')
  new_stays k l = go (dec_lt 0 (numbered k (circuits t')))
    where
      go : Dec (0 < numbered k (circuits t')) → 0 < numbered k (circuits t')
      go (yes h) = h
      go (no h) =
          let some : 0 < numbered k gone = omega (arith, kept.exact (of_number k)) in
          let were = by_key (λ x. x.number) (λ k. 0 < numbered k (circuits t)) gone goes.were k some in
          absurd (omega (arith, kept.exact (of_number k), distinct_most (λ x. x.number) gone goes.single k))

  -- each record's number is live
  lives : All (λ m. live t m.number ≡ true) ms
  lives = all_map _ _ (λ m h. h.was) ms kept.named

  down_lives : All (λ m. live t m.number ≡ true) downs
  down_lives =
      all_join _ (leaving t gone) ms (leaving_all t (λ k. live t k ≡ true) gone (all_map _ _ (λ x l. lt-ltb 0 (numbered x.number (circuits t)) l) gone goes.were))
      lives

  -- how often a number is taken down
  down_tally : (k : ℕ) → records_of k downs ≡ numbered k gone + records_of k ms
  down_tally k = omega (arith, weigh_append (λ m. bit (eqb m.number k)) (leaving t gone) ms, leaving_tally t k gone)

  -- a live number that moves is recorded once, and one that goes is not
  recorded : (k : ℕ) → live t k ≡ true → records_of k ms ≡ bit (moved_to t t' k)
  recorded k l = named_once N ks t gone new t' ms kept k l

  -- so each is once at most
  down_most : (k : ℕ) → records_of k downs ≤ 1
  down_most k = go (dec_lt 0 (records_of k downs)) (dec_lt 0 (numbered k gone))
    where
      is : 0 < records_of k downs → records_of k ms ≡ bit (moved_to t t' k)
      is l = recorded k (by_key (λ m. m.number) (λ k. live t k ≡ true) downs down_lives k l)

      go : Dec (0 < records_of k downs) → Dec (0 < numbered k gone) → records_of k downs ≤ 1
      go (no h) d = omega arith
      go (yes l) (yes g) = omega (arith, is l, gone_unmoved k g, down_tally k, distinct_most (λ x. x.number) gone goes.single k)
      go (yes l) (no g) = omega (arith, is l, down_tally k, bit_most (moved_to t t' k))

  -- each stands where its record says
  each : All (Each (circuit_of t) t) downs
  each =
      all_map _ _ (λ m h. rw h.0 (one_found t rules.numbers long m.number h.1)) downs (all_and _ _ downs olds down_lives)
    where
      olds : All (λ m. m.from.0 ≡ where_is t m.number) downs
      olds = all_join _ (leaving t gone) ms (leaving_old t gone) (all_map _ _ (λ m h. h.old) ms kept.named)

  -- an amount for each record's number is one for each circuit that has moved
  by_moved : (v : ℕ → ℕ) → weigh (λ m. v m.number) ms ≡ weigh (λ x. pick (moved t t' x) (v x.number) 0) (circuits t)
  by_moved v =
      weigh_some (λ m. m.number) (λ c. c.number) ms (circuits t) (moved t t') v rules.numbers
      (all_map _ _ (λ m l. ltb-true 0 (numbered m.number (circuits t)) l) ms lives) kept.once

  -- and for each that is taken down
  abbrev is_down : Circuit → Bool
  is_down x = ltb 0 (records_of x.number downs)

  by_down : (v : ℕ → ℕ) → weigh (λ m. v m.number) downs ≡ weigh (λ x. pick (is_down x) (v x.number) 0) (circuits t)
  by_down v =
      weigh_some (λ m. m.number) (λ c. c.number) downs (circuits t) is_down v rules.numbers
      (all_map _ _ (λ m l. ltb-true 0 (numbered m.number (circuits t)) l) downs down_lives)
      (all_map _ _ (λ x h. one_bit (records_of x.number downs) (down_most x.number)) (circuits t) (counted (λ c. c.number) (circuits t)))

  -- each circuit is found under its number
  found : All (λ x. circuit_of t x.number ≡ x) (circuits t)
  found = holds_each t rules.numbers long (circuits t) (λ w. refl)

  -- those gone stand at no place of the second table
  gone_weighs : (w : Circuit → ℕ) (q : ℕ) → q < place_count → weigh (stands_at t' q w) gone ≡ 0
  gone_weighs w q l = none_weigh (stands_at t' q w) gone (all_map _ _ nowhere gone (counted (λ x. x.number) gone))
    where
      nowhere : (x : Circuit) → 0 < numbered x.number gone → stands_at t' q w x ≡ 0
      nowhere x h = rw (gone_nowhere x.number h, ne_eqb place_count q (λ e. omega arith))

  -- from each place the records take what goes, and to each they bring what comes
  balance : (w : Circuit → ℕ) (q : ℕ) → q < place_count
      → weigh w (held (at t q)) + placed_at w q (landing t ms ++ arriving t' new)
      ≡ weigh w (held (at t' q)) + weigh (λ m. only_at m.from.0 q (w (circuit_of t m.number))) downs
  balance w q l =
      omega (
        arith,
        place_weighs t rules.numbers long w q l,
        place_weighs t' again.numbers long' w q l,
        kept.exact (stands_at t' q w),
        gone_weighs w q l,
        weigh_append (λ m. only_at m.place q (w m.circuit)) (landing t ms) (arriving t' new),
        landing_weighs t t' w q ms kept.named,
        arriving_weighs t' w q new,
        by_moved (λ k. only_at (where_is t' k) q (w (circuit_of t k))),
        by_down (λ k. only_at (where_is t k) q (w (circuit_of t k))),
        taken,
        crossed,
      )
    where
      taken : weigh (λ m. only_at m.from.0 q (w (circuit_of t m.number))) downs
          ≡ weigh (λ m. only_at (where_is t m.number) q (w (circuit_of t m.number))) downs
      taken =
          weigh_same _ _ downs
          (all_map _ _ (λ m h. rw h) downs
          (all_join (λ m. m.from.0 ≡ where_is t m.number) (leaving t gone) ms (leaving_old t gone) (all_map _ _ (λ m h. h.old) ms kept.named)))

      cross : (x : Circuit) → (circuit_of t x.number ≡ x) × (0 < numbered x.number (circuits t))
          → stands_at t q w x + pick (moved t t' x) (only_at (where_is t' x.number) q (w (circuit_of t x.number))) 0
          ≡ stands_at t' q w x + pick (is_down x) (only_at (where_is t x.number) q (w (circuit_of t x.number))) 0
      cross x h =
          crossing (where_is t x.number) (where_is t' x.number) q (w x) (w (circuit_of t x.number)) (moved t t' x) (is_down x) (ap w h.0)
          (λ b. lt-ltb 0 (records_of x.number downs) (omega (arith, count, down_tally x.number, ap bit b)))
          (λ b d. unmoved t t' x.number
          (stands_then x.number (omega (arith, kept.exact (of_number x.number), h.1, ltb-false 0 (records_of x.number downs) d, down_tally x.number)))
          (ap bit b))
          (λ b d e. let g : where_is t' x.number ≡ place_count = gone_nowhere x.number (omega (arith, count, ap bit b, ltb-true 0 (records_of x.number downs) d, down_tally x.number)) in omega arith)
        where
          count : records_of x.number ms ≡ bit (moved t t' x)
          count = recorded x.number (lt-ltb 0 (numbered x.number (circuits t)) h.1)

      crossed : weigh (stands_at t q w) (circuits t) + weigh (λ x. pick (moved t t' x) (only_at (where_is t' x.number) q (w (circuit_of t x.number))) 0) (circuits t)
          ≡ weigh (stands_at t' q w) (circuits t) + weigh (λ x. pick (is_down x) (only_at (where_is t x.number) q (w (circuit_of t x.number))) 0) (circuits t)
      crossed = weigh_balance _ _ _ _ (circuits t) (all_map _ _ cross (circuits t) (all_and _ _ (circuits t) found (counted (λ c. c.number) (circuits t))))

  -- each listed circuit has its new place there
  landed : All (λ m. m.to.0 < place_count) ms
  landed =
      all_map _ _ low ms (all_and _ _ ms kept.named (counted (λ m. m.number) ms))
    where
      low : (m : Move) → Names t t' m × (0 < records_of m.number ms) → m.to.0 < place_count
      low m h = rw h.0.now (go (dec_lt 0 (numbered m.number (circuits t'))))
        where
          go : Dec (0 < numbered m.number (circuits t')) → where_is t' m.number < place_count
          go (yes l) = stands_then m.number l
          go (no z) =
              let e : where_is t' m.number ≡ place_count = dead_nowhere t' m.number (omega arith) in
              absurd (omega (arith, h.1, recorded m.number h.0.was, still e))
            where
              still : where_is t' m.number ≡ place_count → bit (moved_to t t' m.number) ≡ 0
              still e = rw e

  -- so taking down those gone and those listed, and setting up these and then the new ones, gives the second table
  pub carried_out_lem : all_placed (arriving t' new) (all_set_up t ms (taken_down (leaving t gone ++ ms) t)) ≡ t'
  carried_out_lem =
      ap (all_placed (arriving t' new)) (landing_up t ms (taken_down downs t))
      ∙ sym (placed_append (landing t ms) (arriving t' new) (taken_down downs t))
      ∙ placed_is (circuit_of t) t t' downs (landing t ms ++ arriving t' new) long long'
      (λ q l. rising_ordered (at t q) (fits_rising N q (at t q) (rules.places q l))) (λ q l. fits_rising N q (at t' q) (again.places q l)) each
      (most_distinct (λ m. m.number) downs down_most)
      (all_join (λ n. n.place < place_count) (landing t ms) (arriving t' new) (landing_all t (λ p. p < place_count) ms landed)
      (arriving_all t' (λ p. p < place_count) new
      (all_map _ _ (λ c h. stands_then c.number (new_stays c.number h)) new (counted (λ c. c.number) new))))
      balance

-- 01: "All listed circuits are taken down before any is set up.": where no circuit comes and none goes, carrying out the records gives the
-- second table, whatever made them and in whatever order they stand
pub relocates : (N : ℕ) (ks : List ℕ) (t t' : Channels) (ms : List Move) → Rules N ks t → Kept N ks t [] [] t' ms → relocated t ms ≡ t'
relocates N ks t t' ms rules kept = carried_out_lem N ks t [] [] t' ms rules kept (none_goes t t')

-- 01: where one circuit is opened, carrying out the records and then setting it up at its place gives the second table
pub follows_to : (N : ℕ) (ks : List ℕ) (t t' : Channels) (ms : List Move) (c : Circuit) (p : ℕ) → Rules N ks t → Kept N ks t [] (c ∷ []) t' ms
    → where_is t' c.number ≡ p → followed t ms c p ≡ t'
unfolding followed
follows_to N ks t t' ms c p rules kept e = rw (← e) (carried_out_lem N ks t [] (c ∷ []) t' ms rules kept (none_goes t t'))
