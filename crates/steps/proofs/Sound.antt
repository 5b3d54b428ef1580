-- A sound list of changes keeps what an opening or a closing has to keep, whatever step made it. Assumes nothing.
use Prim.Native.Nat.{ℕ, suc, ◌+◌, ◌≤◌, ◌<◌}
use mathlib.Core.Path.{◌≡◌, refl, sym, ap, ◌∙◌}
use mathlib.Core.Logic.{◌≢◌, ◌⊎◌, inl, inr}
use mathlib.Core.Bool.{true, not}
use mathlib.Core.List.{List, [], ◌∷◌, ◌++◌}
use native.Mathlib.Omega.{arith}
use lib.Dec.{eqb, ltb}
use lib.ListN.{length}
use borrow.Author.Tests.{eqb-true, eq-eqb, ne_eqb, lt-ltb}
use Rattle.basis.specs.Choice.{bit}
use Rattle.basis.specs.Count.{weigh, tally, distinct, All}
use Rattle.basis.proofs.Bools.{and-false, bit_eq, bit_passes, all_map, all_and}
use Rattle.basis.proofs.Weigh.{weigh_append, none_weigh, ones_weigh, weigh_zero, counted, distinct_most, most_distinct}
use Rattle.limits.specs.Limits.{place_count}
use Rattle.lightpath.specs.declared.Circuit.{Circuit}
use Rattle.slots.specs.Slot.{held}
use Rattle.slots.specs.declared.Slot.{Slot}
use Rattle.slots.proofs.Contents.{of_number}
use Rattle.channels.specs.Channels.{Channels, at, circuits, numbered, where_is}
use Rattle.channels.specs.declared.Change.{Change}
use Rattle.channels.specs.Change.{puts}
use Rattle.channels.specs.declared.Standing.{Standing}
use Rattle.channels.proofs.Places.{weigh_place}
use Rattle.channels.proofs.Puts.{Apart, Within, Spared, taken, given, puts_length, puts_there, puts_here, puts_every, puts_weigh, part, part_with, whole}
use Rattle.channels.proofs.Numbers.{stands_at_lem, dead_nowhere}
use Rattle.channels.proofs.Nonsharing.{Stands}
use Rattle.moves.specs.declared.Move.{Move}
use Rattle.ports.specs.Ports.{limit_of}
use Rattle.rules.specs.Rules.{unlit_from, fits}
use Rattle.rules.proofs.Rules.{PortsHold, Rules, rules_test, limits_hold}
use Rattle.rules.proofs.Fits.{rules_links}
use Rattle.steps.specs.Plan.{moves_to}
use Rattle.steps.specs.Kept.{Kept}
use Rattle.steps.specs.Moved.{moved, Names}

-- an old circuit that goes to another place
pub record Shift : Type 0 where
  pub who : Standing
  pub to : ℕ

-- their records
abbrev pub shifts : List Shift → List Move
shifts [] = []
shifts (s ∷ ss) = moves_to s.who s.to ∷ shifts ss

-- a circuit with the number of x is in a place's content; is among what place p gets; is at place p of the table
abbrev pub Inside : Slot → Circuit → Type 0
Inside s x = 0 < numbered x.number (held s)

abbrev pub Gets : List Change → ℕ → Circuit → Type 0
Gets [] p x = ⊥
Gets (ch ∷ chs) p x = ((p ≡ ch.place) × Inside ch.slot x) ⊎ Gets chs p x

abbrev pub Has : Channels → ℕ → Circuit → Type 0
Has t p x = (p < place_count) × Inside (at t p) x

-- the weight of the old circuits of the changed places: those that stay, and those that go elsewhere
abbrev pub olds : (Circuit → ℕ) → List Standing → List Shift → ℕ
olds w stay go = weigh (λ m. w m.circuit) stay + weigh (λ s. w s.who.circuit) go

-- the changes chs of the places t of a ring of N nodes: the circuits gone go and the new ones come; of the other old ones at the changed
-- places some stay and some are shifted
pub record Sound (N : ℕ) (t : Channels) (gone new : List Circuit) (chs : List Change) (stay : List Standing) (go : List Shift) : Type 0 where
  pub apart : Apart chs
  pub within : Within t chs
  pub fit : All (λ ch. fits N ch.place ch.slot ≡ true) chs
  pub took : (w : Circuit → ℕ) → taken w t chs ≡ weigh w gone + olds w stay go
  pub gave : (w : Circuit → ℕ) → given w chs ≡ weigh w new + olds w stay go
  pub stayed : All (λ m. Has t m.place m.circuit × Gets chs m.place m.circuit) stay
  pub went : All (λ s. Has t s.who.place s.who.circuit × Gets chs s.to s.who.circuit × (s.who.place ≢ s.to)) go

-- the records of a number are the shifts of it
shift_tally : (k : ℕ) (ss : List Shift) → tally (λ m. m.number) k (shifts ss) ≡ weigh (λ s. of_number k s.who.circuit) ss
shift_tally k [] = refl
shift_tally k (s ∷ ss) = omega (arith, shift_tally k ss)

-- there is a record for each shift
pub shift_length : (ss : List Shift) → length (shifts ss) ≡ length ss
shift_length [] = refl
shift_length (s ∷ ss) = ap suc (shift_length ss)

-- a difference counted as none is none, and back
bit_zero : (m n : ℕ) → bit (not (eqb m n)) ≡ 0 → m ≡ n
bit_zero m n h = eqb-true m n (bit_passes (eqb m n) h)

zero_bit : (m n : ℕ) → m ≡ n → bit (not (eqb m n)) ≡ 0
zero_bit m n e = rw (eq-eqb m n e)

-- 1 where a circuit is not named as often as it has moved
abbrev astray : Channels → Channels → List Move → Circuit → ℕ
astray t t' ms x = bit (not (eqb (tally (λ m. m.number) x.number ms) (bit (moved t t' x))))

module _ (N : ℕ) (ks : List ℕ) (t : Channels) (rules : Rules N ks t) where
  -- a nonsharing circuit is at its place
  pub has : (m : Standing) → Stands (limit_of ks) t m → Has t m.place m.circuit
  has m s =
      let k = limits_hold N ks t rules in
      (omega arith, rw s.there (omega (arith, bit_eq m.circuit.number m.circuit.number refl)))

  -- what is at a place stands there
  pub old_place : (q : ℕ) (x : Circuit) → Has t q x → where_is t x.number ≡ q
  old_place q x h = stands_at_lem t rules.numbers x.number q h.0 h.1

-- where the new ones' numbers are new and their ports free, all is kept
module _ (N : ℕ) (ks : List ℕ) (t : Channels) (gone new : List Circuit) (chs : List Change) (stay : List Standing) (go : List Shift) (rules : Rules N ks t)
    (numbers : distinct (λ c. c.number) (new ++ circuits t) ≡ true) (ports : PortsHold ks (new ++ circuits t)) (s : Sound N t gone new chs stay go) where
  -- there are 128 places
  long : length t ≡ place_count
  long = (limits_hold N ks t rules).long

  -- exactly the circuits gone go, and the new ones come
  exact : (w : Circuit → ℕ) → weigh w (circuits (puts chs t)) + weigh w gone ≡ weigh w new + weigh w (circuits t)
  exact w = omega (arith, puts_weigh w chs t s.apart s.within, s.took w, s.gave w)

  -- so all numbers and ports are among the old ones' and the new ones'
  no_more : (w : Circuit → ℕ) → weigh w (circuits (puts chs t)) + weigh w gone ≡ weigh w (new ++ circuits t)
  no_more w = exact w ∙ sym (weigh_append w new (circuits t))

  -- no number stands twice
  numbers_again : distinct (λ c. c.number) (circuits (puts chs t)) ≡ true
  numbers_again =
      most_distinct (λ c. c.number) (circuits (puts chs t))
      (λ k. omega (arith, no_more (of_number k), distinct_most (λ c. c.number) (new ++ circuits t) numbers k))

  -- where places from the limit up are unlit, the rules hold again
  again : unlit_from (limit_of ks) (puts chs t) ≡ true → Rules N ks (puts chs t)
  again unlit = record {
    bounds = rules.bounds;
    sizes = rw (puts_length chs t) rules.sizes;
    unused = unlit;
    places =
        λ q l. puts_every (λ q s. fits N q s ≡ true) chs t s.within (λ q l n. rules.places q (omega (arith, long))) s.fit q
        (omega (arith, long));
    numbers = numbers_again;
    ports =
        λ j l. let k = ports j l in (
          omega (arith, k.0, no_more (λ c. bit (eqb c.source (suc j)))),
          omega (arith, k.1, no_more (λ c. bit (eqb c.destination (suc j)))),
        );
    spare = rules.spare;
  }

  -- what a place gets, it has
  lands : (q : ℕ) (x : Circuit) → Gets chs q x → Has (puts chs t) q x
  lands q x g = rw (← long) (find chs s.within (puts_here chs t s.apart s.within) g)
    where
      find : (l : List Change) → Within t l → All (λ ch. at (puts chs t) ch.place ≡ ch.slot) l → Gets l q x
          → (q < length t) × Inside (at (puts chs t) q) x
      find [] i h e = absurd e
      find (ch ∷ l) i h (inl g) = rw (g.0, h.0) (i.0, g.1)
      find (ch ∷ l) i h (inr g) = find l i.1 h.1 g

  -- and that stands there
  new_place : (q : ℕ) (x : Circuit) → Has (puts chs t) q x → where_is (puts chs t) x.number ≡ q
  new_place q x h = stands_at_lem (puts chs t) numbers_again x.number q h.0 h.1

  -- one at the same place before and after has not moved
  has_stayed : (q : ℕ) (x : Circuit) → Has t q x → Has (puts chs t) q x → bit (moved t (puts chs t) x) ≡ 0
  has_stayed q x old now = rw (old_place N ks t rules q x old, new_place q x now, eq-eqb q q refl, and-false (ltb q place_count))

  -- one at two places has
  has_moved : (q r : ℕ) (x : Circuit) → Has t q x → Has (puts chs t) r x → q ≢ r → bit (moved t (puts chs t) x) ≡ 1
  has_moved q r x old now n = rw (old_place N ks t rules q x old, new_place r x now, lt-ltb r place_count now.0, ne_eqb q r n)

  -- one that has gone has no place, and so has not
  has_gone : (x : Circuit) → 0 < numbered x.number gone → bit (moved t (puts chs t) x) ≡ 0
  has_gone x h =
      rw (dead_nowhere (puts chs t) x.number
      (omega (arith, no_more (of_number x.number), distinct_most (λ c. c.number) (new ++ circuits t) numbers x.number)))

  -- the circuits of a place that is not changed stay
  others : (q : ℕ) → q < length t → Spared chs q → (x : Circuit) → Inside (at t q) x → bit (moved t (puts chs t) x) ≡ 0
  others q l n x h = let k : q < place_count = rw long at l in has_stayed q x (k, h) (k, rw (puts_there chs t q n) h)

  -- none of those gone has moved, nor of those that stay
  goners : All (λ x. bit (moved t (puts chs t) x) ≡ 0) gone
  goners = all_map _ _ has_gone gone (counted (λ c. c.number) gone)

  stays : All (λ m. bit (moved t (puts chs t) m.circuit) ≡ 0) stay
  stays = all_map _ _ (λ m h. has_stayed m.place m.circuit h.0 (lands m.place m.circuit h.1)) stay s.stayed

  -- those shifted have
  goes : All (λ s. bit (moved t (puts chs t) s.who.circuit) ≡ 1) go
  goes =
      all_map _ _ (λ s h. has_moved s.who.place s.to s.who.circuit h.0 (lands s.to s.who.circuit h.1) h.2) go
      s.went

  -- a weight that is nothing for each circuit of a place that is not changed is that of the others
  changed_only : (w : Circuit → ℕ) → ((q : ℕ) → q < length t → Spared chs q → (x : Circuit) → Inside (at t q) x → w x ≡ 0)
      → weigh w (circuits t) ≡ weigh w gone + olds w stay go
  changed_only w none =
      whole w chs t s.apart s.within
      (λ q l n. none_weigh w (held (at t q)) (all_map _ _ (none q l n) (held (at t q)) (counted (λ c. c.number) (held (at t q)))))
      ∙ s.took w

  -- each number stands once: at a place that is not changed, or with one that goes for good, or stays, or goes elsewhere
  once_only : (k : ℕ) → numbered k gone + olds (of_number k) stay go ≤ 1
  once_only k =
      omega (
        arith,
        s.took (of_number k),
        part (of_number k) chs t s.apart s.within,
        distinct_most (λ c. c.number) (circuits t) rules.numbers k,
      )

  -- a circuit that is shifted as often as it has moved is not astray
  level : (x : Circuit) → weigh (λ s. of_number x.number s.who.circuit) go ≡ bit (moved t (puts chs t) x)
      → astray t (puts chs t) (shifts go) x ≡ 0
  level x e = zero_bit _ (bit (moved t (puts chs t) x)) (shift_tally x.number go ∙ e)

  -- and none is
  none_astray : weigh (astray t (puts chs t) (shifts go)) (circuits t) ≡ 0
  none_astray =
      omega (
        arith,
        changed_only (astray t (puts chs t) (shifts go)) elsewhere,
        none_weigh (astray t (puts chs t) (shifts go)) gone
            (all_map _ _ (λ x h. level x (omega (arith, h, once_only x.number))) gone
            (all_and _ _ gone goners (counted (λ c. c.number) gone))),
        none_weigh (λ m. astray t (puts chs t) (shifts go) m.circuit) stay
            (all_map _ _ (λ m h. level m.circuit (omega (arith, h, once_only m.circuit.number))) stay
            (all_and _ _ stay stays (counted (λ m. m.circuit.number) stay))),
        none_weigh (λ s. astray t (puts chs t) (shifts go) s.who.circuit) go
            (all_map _ _ (λ s h. level s.who.circuit (omega (arith, h, once_only s.who.circuit.number))) go
            (all_and _ _ go goes (counted (λ s. s.who.circuit.number) go))),
      )
    where
      elsewhere : (q : ℕ) → q < length t → Spared chs q → (x : Circuit) → Inside (at t q) x → astray t (puts chs t) (shifts go) x ≡ 0
      elsewhere q l n x h =
          level x
          (omega (
            arith,
            others q l n x h,
            s.took (of_number x.number),
            part_with (of_number x.number) chs t s.apart s.within q n,
            distinct_most (λ c. c.number) (circuits t) rules.numbers x.number,
          ))

  -- each record names a live circuit, with both places
  names : (ss : List Shift) → All (λ s. Has t s.who.place s.who.circuit × Gets chs s.to s.who.circuit × (s.who.place ≢ s.to)) ss
      → All (Names t (puts chs t)) (shifts ss)
  names [] h = tt
  names (s ∷ ss) h = (
    record {
      was =
          lt-ltb 0 (numbered s.who.circuit.number (circuits t))
          (omega (arith, h.0.0.1, weigh_place t (of_number s.who.circuit.number) s.who.place));
      old = sym (old_place N ks t rules s.who.place s.who.circuit h.0.0);
      now = sym (new_place s.to s.who.circuit (lands s.to s.who.circuit h.0.1));
    },
    names ss h.1,
  )

  -- what a place gets stands there
  pub placed : (q : ℕ) (x : Circuit) → Gets chs q x → where_is (puts chs t) x.number ≡ q
  placed q x g = new_place q x (lands q x g)

  -- all is kept
  pub keeps : unlit_from (limit_of ks) (puts chs t) ≡ true → Kept N ks t gone new (puts chs t) (shifts go)
  keeps unlit = record {
    rules = rules_test N ks (puts chs t) (again unlit);
    exact = exact;
    count =
        omega (
          arith,
          changed_only (λ x. bit (moved t (puts chs t) x)) others,
          none_weigh (λ x. bit (moved t (puts chs t) x)) gone goners,
          none_weigh (λ m. bit (moved t (puts chs t) m.circuit)) stay stays,
          ones_weigh (λ s. bit (moved t (puts chs t) s.who.circuit)) go goes,
          shift_length go,
        );
    named = names go s.went;
    once = all_map _ _ (λ x h. bit_zero _ _ h) (circuits t) (weigh_zero _ (circuits t) none_astray);
    links = rules_links N ks (puts chs t) (again unlit);
  }
