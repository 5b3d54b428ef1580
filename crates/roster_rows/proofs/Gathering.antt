-- The entries of keys and rests gathered one after another into the room of a row. Assumes nothing.
use Prim.Native.Nat.{ℕ, zero, suc, ◌+◌, ◌-◌, ◌≤◌, ◌<◌}
use mathlib.Core.Path.{◌≡◌, refl, sym, ap, ◌∙◌}
use mathlib.Core.List.{List, [], ◌∷◌, ◌++◌}
use native.Mathlib.Numerals.{add-one}
use native.Mathlib.Omega.{arith}
use lib.ListN.{length, get_or, take, set, replicate, length-append, length-set, length-replicate}
use lib.Seq.{take_all, set_at, append_snoc}
use Rattle.limits.specs.Limits.{most_ports}
use Rattle.lightpath.specs.Circuit.{blank_circuit}
use Rattle.channels.specs.declared.Standing.{Standing}
use Rattle.entries.specs.Entry.{entry_of}
use Rattle.roster.specs.Roster.{entries_in}
use Rattle.roster_rows.specs.Lookups.{in_room}

-- the entry with all fields zero
abbrev pub blank : Standing
blank = record { place = 0; circuit = blank_circuit }

-- the entries of the first i keys and rests
abbrev first_entries : ℕ → List ℕ → List ℕ → List Standing
first_entries i keys rests = entries_in (take i keys) (take i rests)

-- are i
first_long : (i : ℕ) (keys rests : List ℕ) → i ≤ length keys → i ≤ length rests → length (first_entries i keys rests) ≡ i
first_long zero keys rests h g = refl
first_long (suc i) [] rests h g = absurd (omega arith)
first_long (suc i) (k ∷ keys) [] h g = absurd (omega arith)
first_long (suc i) (k ∷ keys) (r ∷ rests) h g = ap suc (first_long i keys rests (omega arith) (omega arith))

-- and those of one more are these and that one's
first_more : (i : ℕ) (keys rests : List ℕ) → i < length keys → i < length rests
    → first_entries (suc i) keys rests ≡ first_entries i keys rests ++ (entry_of (get_or keys i 0) (get_or rests i 0) ∷ [])
first_more i [] rests h g = absurd (omega arith)
first_more i (k ∷ keys) [] h g = absurd (omega arith)
first_more zero (k ∷ keys) (r ∷ rests) h g = refl
first_more (suc i) (k ∷ keys) (r ∷ rests) h g = ap (λ (l : List Standing). entry_of k r ∷ l) (first_more i keys rests (omega arith) (omega arith))

-- a store after i entries in the room of a row is one entry more in it
room_more : (i : ℕ) (ms : List Standing) (m : Standing) → length ms ≡ i → i < most_ports → set (in_room ms) i m ≡ in_room (ms ++ (m ∷ []))
room_more i ms m e h =
    let apart : most_ports - length ms ≡ suc (most_ports - suc i) = omega arith in
    let long : most_ports - length (ms ++ (m ∷ [])) ≡ most_ports - suc i = rw (length-append ms (m ∷ [])) (omega arith) in
    rw (apart, long, set_at ms blank (replicate (most_ports - suc i) blank) m i e) (sym (append_snoc ms m (replicate (most_ports - suc i) blank)))

-- the first i entries are there
pub record Gathers (keys rests : List ℕ) (list : List Standing) (i : ℕ) : Type 0 where
  pub is : list ≡ in_room (first_entries i keys rests)
  pub long : length list ≡ most_ports
  pub within : i ≤ length keys
  pub few : length keys ≤ most_ports
  pub same : length rests ≡ length keys

pub gather_none : (keys rests : List ℕ) → length keys ≤ most_ports → length rests ≡ length keys → Gathers keys rests (replicate most_ports blank) 0
gather_none keys rests f s = record { is = refl; long = length-replicate {A = Standing} most_ports blank; within = omega arith; few = f; same = s }

module _ (keys rests : List ℕ) (list : List Standing) (i : ℕ) (q : Gathers keys rests list i) where
  pub gather_all : length keys ≤ i → list ≡ in_room (entries_in keys rests)
  gather_all h = rw (take_all i keys h, take_all i rests (omega (arith, q.same))) at q.is

  module _ (h : i < length keys) where
    pub gather_room : i < length list
    gather_room = omega (arith, q.long, q.few)

    pub gather_next : (m : Standing) → m ≡ entry_of (get_or keys i 0) (get_or rests i 0) → Gathers keys rests (set list i m) (i + 1)
    gather_next m e = record {
      is = next;
      long = length-set list i m ∙ q.long;
      within = omega arith;
      few = q.few;
      same = q.same;
    }
      where
        there : i < length rests
        there = omega (arith, q.same)

        next : set list i m ≡ in_room (first_entries (i + 1) keys rests)
        next =
            rw (q.is, add-one i, first_more i keys rests h there, ← e)
            (room_more i (first_entries i keys rests) m (first_long i keys rests (omega arith) (omega arith)) (omega (arith, q.few)))

pub ruleset gathering = (gather_none, gather_all, gather_room, gather_next)
