-- 02, E7: "hold the circuits in memory by source node and then by number, each with its place. The old arrangement remains as the
-- definition": a roster is defined by the ring table that it is of. Assumes nothing. What the calls on a roster promise.
use Rattle.std.specs.Prelude.{ℕ, suc, Bool, true, false, ◌&&◌, not, List, [], ◌∷◌, ◌++◌, map, eqb, ltb, length, take, Ok, Err}
use Rattle.basis.specs.Choice.{pick}
use Rattle.limits.specs.Limits.{most_circuits}
use Rattle.lightpath.specs.declared.Circuit.{Circuit}
use Rattle.slots.specs.Slot.{held}
use Rattle.slots.specs.declared.Slot.{Slot}
use Rattle.channels.specs.Channels.{Channels, slots, unlit_channels}
use Rattle.channels.specs.declared.Standing.{Standing}
use Rattle.steps.specs.Following.{set_up}
use Rattle.refusals.specs.Refusal.{◌if◌, judged, Verdict}
use Rattle.refusals.specs.declared.Refusal.TheVariants.{BrokenRule}
use Rattle.ring.specs.Table.{meets_rules, blank_table}
use Rattle.ring.specs.declared.Answered.{Answered}
use Rattle.ring.specs.declared.RingTable.{RingTable}
use Rattle.entries.specs.Entry.{key_of, rest_of, entry_of}
use Rattle.entries.specs.Lists.{padded}
pub use Rattle.roster.specs.declared.Heading.{Heading}
pub use Rattle.roster.specs.declared.Roster.{Roster}
pub use Rattle.roster.specs.declared.Built.{Built}

-- some circuits that stand at place p
abbrev pub standing : ℕ → List Circuit → List Standing
standing p [] = []
standing p (x ∷ xs) = record { place = p; circuit = x } ∷ standing p xs

-- every circuit with its place, by rising place; the places count from p
abbrev pub standings_from : ℕ → List Slot → List Standing
standings_from p [] = []
standings_from p (s ∷ u) = standing p (held s) ++ standings_from (suc p) u

-- the key of an entry
abbrev pub key_in : Standing → ℕ
key_in m = key_of m.circuit

-- an entry stands before another whose key is higher
abbrev pub before : Standing → Standing → Bool
before n m = ltb (key_in n) (key_in m)

-- an entry filed: after those that stand before it
abbrev pub filed : Standing → List Standing → List Standing
filed m [] = m ∷ []
filed m (n ∷ ns) = pick (before n m) (n ∷ filed m ns) (m ∷ n ∷ ns)

-- several, one after the other
abbrev pub filed_all : List Standing → List Standing → List Standing
filed_all [] es = es
filed_all (m ∷ ms) es = filed_all ms (filed m es)

-- the circuits of some places "by source node and then by number, each with its place"
unfoldable pub entries : Channels → List Standing
entries t = filed_all (standings_from 0 (slots t)) []

-- the roster of a ring of N nodes with the port counts ks and the entries es; unused room is 0
abbrev pub roster_of : ℕ → List ℕ → List Standing → Roster
roster_of N ks es = record {
  keys = padded most_circuits (map key_in es);
  rests = padded most_circuits (map rest_of es);
  heading = record { ports = ks; nodes = N; count = length es };
}

-- the roster that a table gives
unfoldable pub arranged : RingTable → Roster
arranged t = roster_of t.nodes t.ports (entries t.channels)

-- the blank roster, all zeros
abbrev pub blank_roster : Roster
blank_roster = roster_of 0 blank_table.ports []

-- the entries of keys and rests
abbrev pub entries_in : List ℕ → List ℕ → List Standing
entries_in [] rests = []
entries_in (k ∷ keys) [] = []
entries_in (k ∷ keys) (r ∷ rests) = entry_of k r ∷ entries_in keys rests

-- each circuit set up at its place, one after the other
abbrev pub stood_up : List Standing → Channels → Channels
stood_up [] t = t
stood_up (m ∷ ms) t = stood_up ms (set_up m.circuit m.place t)

-- the places of the entries in the first so many keys and rests
abbrev pub places_of : List ℕ → List ℕ → ℕ → Channels
places_of keys rests count = stood_up (entries_in (take count keys) (take count rests)) unlit_channels

-- the table of a roster
unfoldable pub table_of : Roster → RingTable
table_of r = record { nodes = r.heading.nodes; ports = r.heading.ports; channels = places_of r.keys r.rests r.heading.count }

-- two lists are equal
abbrev pub same_list : List ℕ → List ℕ → Bool
same_list [] [] = true
same_list [] (y ∷ ys) = false
same_list (x ∷ xs) [] = false
same_list (x ∷ xs) (y ∷ ys) = eqb x y && same_list xs ys

-- two rosters of one ring have the same entries, and nothing else in the room left
abbrev pub same_entries : Roster → Roster → Bool
same_entries a b = eqb a.heading.count b.heading.count && same_list a.keys b.keys && same_list a.rests b.rests

-- a roster stands where its table meets the ring rules and gives it back; "an arrangement that no old table gives is met by 22"
unfoldable pub stands : Roster → Bool
stands r = meets_rules (table_of r) && same_entries (arranged (table_of r)) r

-- "From each table that meets the ring rules, in either arrangement, the other is built .. building from any other is met by 22 and gives the
-- blank one": a roster of a table,
abbrev pub built_by : RingTable → Verdict → Built
built_by t (Ok _) = record { roster = arranged t; verdict = Ok tt }
built_by t (Err r) = record { roster = blank_roster; verdict = Err r }

unfoldable pub built_of : RingTable → Built
built_of t = built_by t (judged ((BrokenRule if not (meets_rules t)) ∷ []))

-- and a table of a roster
abbrev pub table_by : Roster → Verdict → Answered
table_by r (Ok _) = record { table = table_of r; verdict = Ok tt }
table_by r (Err e) = record { table = blank_table; verdict = Err e }

unfoldable pub table_built : Roster → Answered
table_built r = table_by r (judged ((BrokenRule if not (stands r)) ∷ []))
