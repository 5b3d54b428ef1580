-- Taking circuits down and setting circuits up, by weight: what each place holds afterwards weighs what it did, without those taken down there
-- and with those set up there; and a place is told by what it weighs, since the lower number of two stands first. So where the weights of two
-- tables differ by those taken down and those set up, place by place, the one becomes the other. Assumes nothing.
use Prim.Native.Nat.{ℕ, ◌+◌, ◌≤◌, ◌<◌}
use mathlib.Core.Path.{◌≡◌, refl, sym, ap, ◌∙◌}
use mathlib.Core.Logic.{◌≢◌}
use mathlib.Core.Bool.{Bool, true, false}
use mathlib.Core.List.{List, [], ◌∷◌, ◌++◌}
use native.Mathlib.Decide.{ℕ_discrete}
use native.Mathlib.Omega.{arith}
use lib.Dec.{eqb, ltb}
use lib.ListN.{length}
use lib.Seq.{ext_get_or}
use borrow.Author.Tests.{eqb-true, eq-eqb, ne_eqb, ltb-true, ltb-false}
use Rattle.basis.specs.Choice.{pick, bit}
use Rattle.basis.specs.Count.{weigh, tally, distinct, All}
use Rattle.basis.proofs.Bools.{and_left, and_right, bit_eq, bit_ne, all_map, all_and}
use Rattle.basis.proofs.Weigh.{weigh_zero, keyed}
use Rattle.limits.specs.Limits.{place_count}
use Rattle.lightpath.specs.declared.Circuit.{Circuit}
use Rattle.lightpath.proofs.Same.{same_circuit}
use Rattle.slots.specs.Slot.{held, named, without}
use Rattle.slots.specs.declared.Slot.{Slot}
use Rattle.slots.specs.declared.Slot.TheVariants.{Unlit as unlit, Alone as alone, Shared as shared}
use Rattle.slots.proofs.Contents.{of_number, held_most, together_weighs, parted, named_weighs}
use Rattle.channels.specs.Channels.{Channels, unlit_channel, at, numbered}
use Rattle.channels.specs.Change.{◌gets◌, put}
use Rattle.channels.specs.declared.Change.{Change}
use Rattle.channels.specs.declared.Standing.{Standing}
use Rattle.channels.proofs.Places.{put_length, put_here, put_there}
use Rattle.moves.specs.declared.Move.{Move}
use Rattle.steps.specs.Following.{taken_down, with, set_up}

-- of two at a place the first has no higher number; and it has a lower one
abbrev pub Ordered : Slot → Type 0
Ordered unlit = Unit {0}
Ordered (alone a) = Unit {0}
Ordered (shared a b) = a.number ≤ b.number

abbrev pub Rising : Slot → Type 0
Rising unlit = Unit {0}
Rising (alone a) = Unit {0}
Rising (shared a b) = a.number < b.number

-- a content is told by what it weighs
pub same_slot : (s r : Slot) → Ordered s → Rising r → ((w : Circuit → ℕ) → weigh w (held s) ≡ weigh w (held r)) → s ≡ r
same_slot unlit unlit o i h = refl
same_slot unlit (alone c) o i h = absurd (omega (arith, h (λ x. 1)))
same_slot unlit (shared c d) o i h = absurd (omega (arith, h (λ x. 1)))
same_slot (alone a) unlit o i h = absurd (omega (arith, h (λ x. 1)))
same_slot (alone a) (alone c) o i h = ap alone (same_circuit a c (λ w. omega (arith, h w)))
same_slot (alone a) (shared c d) o i h = absurd (omega (arith, h (λ x. 1)))
same_slot (shared a b) unlit o i h = absurd (omega (arith, h (λ x. 1)))
same_slot (shared a b) (alone c) o i h = absurd (omega (arith, h (λ x. 1)))
same_slot (shared a b) (shared c d) o i h = λ i. shared (same_circuit a c first i) (same_circuit b d second i)
  where
    -- the lower numbers are the same
    lower : a.number ≡ c.number
    lower = go (ℕ_discrete a.number c.number) (ℕ_discrete b.number c.number)
      where
        go : Dec (a.number ≡ c.number) → Dec (b.number ≡ c.number) → a.number ≡ c.number
        go (yes e) f = e
        go (no n) (yes f) = absurd (omega (arith, h (λ x. x.number)))
        go (no n) (no f) =
            absurd (omega (
              arith,
              h (of_number c.number),
              bit_ne a.number c.number n,
              bit_ne b.number c.number f,
              bit_eq c.number c.number refl,
            ))

    -- so the first ones are
    first : (w : Circuit → ℕ) → w a ≡ w c
    first w =
        let up : b.number ≡ d.number = omega (arith, h (λ x. x.number), lower) in
        let k = rw (
          eq-eqb a.number c.number lower,
          ne_eqb b.number c.number (λ e. omega arith),
          eq-eqb c.number c.number refl,
          ne_eqb d.number c.number (λ e. omega arith),
        ) at (h (keyed (λ x. x.number) c.number w)) in
        omega arith

    -- and the others
    second : (w : Circuit → ℕ) → w b ≡ w d
    second w = omega (arith, h w, first w)

-- one set up where there is room weighs as much more
with_weighs : (w : Circuit → ℕ) (c : Circuit) (s : Slot) → weigh (λ x. 1) (held s) ≤ 1 → weigh w (held (with c s)) ≡ weigh w (held s) + w c
with_weighs w c unlit l = omega arith
with_weighs w c (alone a) l = omega (arith, together_weighs w a c)
with_weighs w c (shared a b) l = absurd (omega arith)

-- in order
with_ordered : (c : Circuit) (s : Slot) → Ordered s → Ordered (with c s)
with_ordered c unlit o = tt
with_ordered c (alone a) o = go (ltb a.number c.number) refl
  where
    go : (t : Bool) → ltb a.number c.number ≡ t → Ordered (pick t (shared a c) (shared c a))
    go true e = omega (arith, ltb-true a.number c.number e)
    go false e = ltb-false a.number c.number e
with_ordered c (shared a b) o = o

-- what is left is in order
without_ordered : (k : ℕ) (s : Slot) → Ordered (without k s)
without_ordered k unlit = tt
without_ordered k (alone a) = tt
without_ordered k (shared a b) = go (eqb a.number k)
  where
    go : (t : Bool) → Ordered (pick t (alone b) (alone a))
    go true = tt
    go false = tt

-- every place of a table is in order
abbrev pub InOrder : Channels → Type 0
InOrder u = (q : ℕ) → q < place_count → Ordered (at u q)

-- and stays so where a place gets what is
put_ordered : (ch : Change) (u : Channels) → ch.place < length u → Ordered ch.slot → InOrder u → InOrder (put ch u)
put_ordered ch u l o h q k = go (ℕ_discrete q ch.place)
  where
    go : Dec (q ≡ ch.place) → Ordered (at (put ch u) q)
    go (yes e) = rw (e, put_here ch u l) o
    go (no n) = rw (put_there ch u q n) (h q k)

-- an amount at place p, and nothing elsewhere: what of it is at place q
abbrev pub only_at : ℕ → ℕ → ℕ → ℕ
only_at p q v = pick (eqb p q) v 0

-- a number counted is a weight of 1 for each
count_keyed : (k : ℕ) (cs : List Circuit) → numbered k cs ≡ weigh (keyed (λ c. c.number) k (λ c. 1)) cs
count_keyed k [] = refl
count_keyed k (c ∷ cs) = omega (arith, count_keyed k cs, one (eqb c.number k))
  where
    one : (o : Bool) → bit o ≡ pick o 1 0
    one true = refl
    one false = refl

-- the circuit x of number k is the one of its number at place p of u
pub record One (x : Circuit) (u : Channels) (k p : ℕ) : Type 0 where
  pub within : p < length u
  pub number : x.number ≡ k
  pub stood : (w : Circuit → ℕ) → weigh (keyed (λ c. c.number) k w) (held (at u p)) ≡ w x

-- the change that takes it down
abbrev off : Channels → ℕ → ℕ → Change
off u k p = p gets without k (at u p)

module _ (x : Circuit) (u : Channels) (k p : ℕ) (one : One x u k p) where
  once : numbered k (held (at u p)) ≡ 1
  once = count_keyed k (held (at u p)) ∙ one.stood (λ c. 1)

  -- its place weighs as much less, and every other what it did
  down_one : (w : Circuit → ℕ) (q : ℕ) → weigh w (held (at (put (off u k p) u) q)) + only_at p q (w x) ≡ weigh w (held (at u q))
  down_one w q = go (ℕ_discrete q p)
    where
      is : w (named k (at u p)) ≡ w x
      is = sym (named_weighs w k (at u p) once) ∙ one.stood w

      go : Dec (q ≡ p) → weigh w (held (at (put (off u k p) u) q)) + only_at p q (w x) ≡ weigh w (held (at u q))
      go (yes e) =
          rw (e, put_here (off u k p) u one.within, eq-eqb p p refl)
          (omega (arith, (parted k (at u p) (omega (arith, once))).weighs w, is))
      go (no n) = rw (put_there (off u k p) u q n, ne_eqb p q (λ e. n (sym e))) (omega arith)

  -- one of another number is still there
  down_other : (y : Circuit) (j r : ℕ) → j ≢ k → One y u j r → One y (put (off u k p) u) j r
  down_other y j r n o = record {
    within = rw (put_length (off u k p) u) o.within;
    number = o.number;
    stood = λ w. omega (arith, down_one (keyed (λ c. c.number) j w) r, nothing w, o.stood w);
  }
    where
      zero_either : (t : Bool) → ◌≡◌ {A = ℕ} (pick t 0 0) 0
      zero_either true = refl
      zero_either false = refl

      nothing : (w : Circuit → ℕ) → only_at p r (keyed (λ c. c.number) j w x) ≡ 0
      nothing w = rw (ne_eqb x.number j (λ e. n (sym e ∙ one.number))) (zero_either (eqb p r))

-- those of a list are taken down, where each has a number of its own: x k is the circuit of number k
module _ (x : ℕ → Circuit) where
  abbrev pub Each : Channels → Move → Type 0
  Each u m = One (x m.number) u m.number m.from.0

  down_all : (ms : List Move) (u : Channels) → All (Each u) ms → distinct (λ m. m.number) ms ≡ true → (w : Circuit → ℕ) (q : ℕ)
      → weigh w (held (at (taken_down ms u) q)) + weigh (λ m. only_at m.from.0 q (w (x m.number))) ms ≡ weigh w (held (at u q))
  down_all [] u h d w q = omega arith
  down_all (m ∷ ms) u h d w q =
      omega (
        arith,
        down_all ms (put (off u m.number m.from.0) u) still (and_right (eqb (tally (λ m. m.number) m.number ms) 0) _ d) w q,
        down_one (x m.number) u m.number m.from.0 h.0 w q,
      )
    where
      others : All (λ n. bit (eqb n.number m.number) ≡ 0) ms
      others = weigh_zero _ ms (eqb-true _ _ (and_left _ _ d))

      still : All (Each (put (off u m.number m.from.0) u)) ms
      still =
          all_map _ _
          (λ n k. down_other (x m.number) u m.number m.from.0 h.0 (x n.number) n.number n.from.0
          (λ e. omega (arith, k.0, bit_eq n.number m.number e)) k.1) ms (all_and _ _ ms others h.1)

-- there are as many places, and they are in order
down_length : (ms : List Move) (u : Channels) → length (taken_down ms u) ≡ length u
down_length [] u = refl
down_length (m ∷ ms) u = down_length ms (put (off u m.number m.from.0) u) ∙ put_length (off u m.number m.from.0) u

down_ordered : (ms : List Move) (u : Channels) → All (λ m. m.from.0 < length u) ms → InOrder u → InOrder (taken_down ms u)
down_ordered [] u l h = h
down_ordered (m ∷ ms) u l h =
    let ch = off u m.number m.from.0 in
    down_ordered ms (put ch u) (all_map _ _ (λ n k. rw (put_length ch u) k) ms l.1)
    (put_ordered ch u l.0 (without_ordered m.number (at u m.from.0)) h)

-- circuits are set up, each at its place, one after the other
abbrev pub all_placed : List Standing → Channels → Channels
all_placed [] u = u
all_placed (m ∷ ms) u = all_placed ms (set_up m.circuit m.place u)

pub placed_append : (ms ns : List Standing) (u : Channels) → all_placed (ms ++ ns) u ≡ all_placed ns (all_placed ms u)
placed_append [] ns u = refl
placed_append (m ∷ ms) ns u = placed_append ms ns _

-- where there is room, its place weighs as much more, and every other what it did
up_one : (c : Circuit) (p : ℕ) (u : Channels) → p < length u → weigh (λ x. 1) (held (at u p)) ≤ 1 → (w : Circuit → ℕ) (q : ℕ)
    → weigh w (held (at (set_up c p u) q)) ≡ weigh w (held (at u q)) + only_at p q (w c)
up_one c p u l room w q = go (ℕ_discrete q p)
  where
    on : Change
    on = p gets with c (at u p)

    go : Dec (q ≡ p) → weigh w (held (at (set_up c p u) q)) ≡ weigh w (held (at u q)) + only_at p q (w c)
    go (yes e) = rw (e, put_here on u l, eq-eqb p p refl) (with_weighs w c (at u p) room)
    go (no n) = rw (put_there on u q n, ne_eqb p q (λ e. n (sym e))) (omega arith)

-- what is set up at place q
abbrev pub placed_at : (Circuit → ℕ) → ℕ → List Standing → ℕ
placed_at w q ms = weigh (λ m. only_at m.place q (w m.circuit)) ms

-- there is room for all where the places weigh, with them, what those of a table do
up_all : (ms : List Standing) (u t' : Channels) → length u ≡ place_count → All (λ m. m.place < place_count) ms
    → ((w : Circuit → ℕ) (q : ℕ) → q < place_count → weigh w (held (at u q)) + placed_at w q ms ≡ weigh w (held (at t' q)))
    → (w : Circuit → ℕ) (q : ℕ) → q < place_count → weigh w (held (at (all_placed ms u) q)) ≡ weigh w (held (at t' q))
up_all [] u t' long low h w q l = omega (arith, h w q l)
up_all (m ∷ ms) u t' long low h w q l =
    up_all ms (set_up m.circuit m.place u) t' (put_length (m.place gets with m.circuit (at u m.place)) u ∙ long) low.1 next w q l
  where
    room : weigh (λ x. 1) (held (at u m.place)) ≤ 1
    room =
        let k = rw (eq-eqb m.place m.place refl) at (h (λ x. 1) m.place low.0) in
        omega (arith, k, held_most (λ x. 1) (λ x. omega arith) (at t' m.place))

    next : (w : Circuit → ℕ) (q : ℕ) → q < place_count
        → weigh w (held (at (set_up m.circuit m.place u) q)) + placed_at w q ms ≡ weigh w (held (at t' q))
    next w q l = omega (arith, h w q l, up_one m.circuit m.place u (rw long low.0) room w q)

-- there are as many places, and they are in order
up_length : (ms : List Standing) (u : Channels) → length (all_placed ms u) ≡ length u
up_length [] u = refl
up_length (m ∷ ms) u =
    up_length ms (set_up m.circuit m.place u) ∙ put_length (m.place gets with m.circuit (at u m.place)) u

up_ordered : (ms : List Standing) (u : Channels) → length u ≡ place_count → All (λ m. m.place < place_count) ms → InOrder u → InOrder (all_placed ms u)
up_ordered [] u long low h = h
up_ordered (m ∷ ms) u long low h =
    let ch = m.place gets with m.circuit (at u m.place) in
    up_ordered ms (put ch u) (put_length ch u ∙ long) low.1
    (put_ordered ch u (rw long low.0) (with_ordered m.circuit (at u m.place) (h m.place low.0)) h)

-- two tables are one where each place weighs the same
same_table : (u t' : Channels) → length u ≡ place_count → length t' ≡ place_count → InOrder u → ((q : ℕ) → q < place_count → Rising (at t' q))
    → ((w : Circuit → ℕ) (q : ℕ) → q < place_count → weigh w (held (at u q)) ≡ weigh w (held (at t' q))) → u ≡ t'
same_table u t' long long' order rising h =
    ext_get_or unlit_channel u t' (long ∙ sym long')
    (λ q l. let k : q < place_count = rw long at l in λ i. record { slot = same_slot (at u q) (at t' q) (order q k) (rising q k) (λ w. h w q k) i })

-- the records ms are taken down from t and the circuits of ns set up: where each place of t weighs, with those set up there, what that of t'
-- does with those taken down there, this gives t'
pub placed_is : (x : ℕ → Circuit) (t t' : Channels) (ms : List Move) (ns : List Standing) → length t ≡ place_count → length t' ≡ place_count → InOrder t
    → ((q : ℕ) → q < place_count → Rising (at t' q)) → All (Each x t) ms → distinct (λ m. m.number) ms ≡ true → All (λ n. n.place < place_count) ns
    → ((w : Circuit → ℕ) (q : ℕ) → q < place_count
    → weigh w (held (at t q)) + placed_at w q ns
    ≡ weigh w (held (at t' q)) + weigh (λ m. only_at m.from.0 q (w (x m.number))) ms)
    → all_placed ns (taken_down ms t) ≡ t'
placed_is x t t' ms ns long long' order rising each apart low h =
    let u = taken_down ms t in
    let lu = down_length ms t ∙ long in
    same_table (all_placed ns u) t' (up_length ns u ∙ lu) long'
    (up_ordered ns u lu low (down_ordered ms t (all_map _ _ (λ m o. o.within) ms each) order)) rising
    (up_all ns u t' lu low (λ w q l. omega (arith, h w q l, down_all x ms t each apart w q)))
