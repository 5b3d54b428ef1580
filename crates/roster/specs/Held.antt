-- What keys and rests hold, and the table that they are of. Assumes nothing. What `hold` and `table_in` promise, and what the calls on lent keys
-- and rests ask for. `Typed` is what the laws of there and back ask of a table, which every table in memory has; `Gives` is what a roster that
-- stands has (`stands_exactly`).
use Rattle.std.specs.Prelude.{ℕ, ◌≡◌, true, List, map, length}
use Rattle.basis.specs.Count.{All}
use Rattle.limits.specs.Limits.{most_circuits}
use Rattle.channels.specs.Channels.{Channels, circuits}
use Rattle.rules.specs.Rules.{ring_rules}
use Rattle.ring.specs.Table.{meets_rules}
use Rattle.ring.specs.declared.RingTable.{RingTable}
use Rattle.entries.specs.Entry.{rest_of, in_fields}
use Rattle.entries.specs.Lists.{padded}
use Rattle.roster.specs.Roster.{Heading, Roster, key_in, entries, arranged, places_of}

-- each circuit is within its fields
abbrev pub Typed : Channels → Type 0
Typed t = All (λ x. in_fields x ≡ true) (circuits t)

-- keys and rests, of which so many are in use, hold the entries of the places t of a ring of N nodes with the port counts ks
pub record Holds (N : ℕ) (ks : List ℕ) (t : Channels) (keys rests : List ℕ) (count : ℕ) : Type 0 where
  pub rules : ring_rules N ks t ≡ true
  pub typed : Typed t
  pub keyed : keys ≡ padded most_circuits (map key_in (entries t))
  pub rested : rests ≡ padded most_circuits (map rest_of (entries t))
  pub counted : count ≡ length (entries t)

-- the table of a heading, keys and rests
abbrev pub table_in : Heading → List ℕ → List ℕ → RingTable
table_in h keys rests = record { nodes = h.nodes; ports = h.ports; channels = places_of keys rests h.count }

-- a heading, keys and rests hold the entries of a table
pub record HoldsTable (t : RingTable) (h : Heading) (keys rests : List ℕ) : Type 0 where
  pub nodes : h.nodes ≡ t.nodes
  pub ports : h.ports ≡ t.ports
  pub holds : Holds t.nodes t.ports t.channels keys rests h.count

-- some table that meets the ring rules gives a roster
pub record Gives (r : Roster) : Type 0 where
  pub table : RingTable
  pub rules : meets_rules table ≡ true
  pub typed : Typed table.channels
  pub is : arranged table ≡ r
