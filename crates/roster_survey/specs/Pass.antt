-- What a pass over the keys and rests of the entries sees for a new circuit, and the entry that it finds for it to join. Assumes nothing.
-- Serves proofs inside only.
use Rattle.std.specs.Prelude.{ℕ, ◌+◌, ◌/◌, ◌%◌, ◌^◌, ◌≤◌, ◌<◌, ◌≡◌, Bool, true, ◌&&◌, not, List, eqb, ltb, length, get_or}
use Rattle.basis.specs.Choice.{pick, bit}
use Rattle.basis.specs.Count.{tally}
use Rattle.limits.specs.Limits.{place_count, most_circuits}
use Rattle.lightpath.specs.Place.{direction_of}
use Rattle.lightpath.specs.Circuit.{blank_circuit, can_share}
use Rattle.lightpath.specs.declared.Circuit.{Circuit}
use Rattle.lit_words.specs.Lit.{lit_bit, words_of}
use Rattle.lit_words.specs.Sets.{either_of, both_of}
use Rattle.lit_words.specs.With.{with_place}
use Rattle.lit_words.specs.declared.Lit.{Lit}
use Rattle.channels.specs.declared.Standing.{Standing}
use Rattle.entries.specs.Entry.{entry_of}
pub use Rattle.roster_survey.specs.declared.Pass.{Pass}
pub use Rattle.roster_survey.specs.declared.Nearest.{Nearest}

-- the number in a key; the place and the destination in a rest
abbrev pub number_in : ℕ → ℕ
number_in key = key % 2 ^ 32

abbrev pub place_in : ℕ → ℕ
place_in rest = rest % 2 ^ 8

abbrev pub destination_in : ℕ → ℕ
destination_in rest = rest / 2 ^ 8 % 2 ^ 8

-- how many of some entries stand at place p: it is lit where one does, and shared where two do
abbrev pub stand_at : List ℕ → ℕ → ℕ
stand_at rests p = tally place_in p rests

abbrev pub lit_in : List ℕ → ℕ → Bool
lit_in rests p = ltb 0 (stand_at rests p)

abbrev pub shared_in : List ℕ → ℕ → Bool
shared_in rests p = ltb 1 (stand_at rests p)

-- what is seen of some entries: how many have its number, how many go to its destination, the lit places and the shared ones
abbrev pub pass_of : Circuit → List ℕ → List ℕ → Pass
pass_of c keys rests = record {
  numbered = tally number_in c.number keys;
  received = tally destination_in c.destination rests;
  lit = words_of (lit_in rests);
  shared = words_of (shared_in rests);
}

-- place p alone
abbrev pub one_place : ℕ → Lit
one_place p = with_place (record { low = 0; high = 0 }) p

-- with one entry more: its place is lit, and shared where it was lit already
abbrev pub pass_with : Circuit → ℕ → ℕ → Pass → Pass
pass_with c key rest v = record {
  numbered = v.numbered + bit (eqb (number_in key) c.number);
  received = v.received + bit (eqb (destination_in rest) c.destination);
  lit = either_of v.lit (one_place (place_in rest));
  shared = either_of v.shared (both_of v.lit (one_place (place_in rest)));
}

-- the counts have room for it, and its place is one that there is
pub record Takes (v : Pass) (rest : ℕ) : Type 0 where
  pub place : place_in rest < place_count
  pub numbered : v.numbered < most_circuits
  pub received : v.received < most_circuits

-- the first count keys and rests are entries, at places that there are
pub record Entered (keys rests : List ℕ) (count : ℕ) : Type 0 where
  pub keyed : count ≤ length keys
  pub rested : count ≤ length rests
  pub few : count ≤ most_circuits
  pub below : (i : ℕ) → i < count → place_in (get_or rests i 0) < place_count

-- the new circuit can join the one of an entry: its place is not shared, and the two can share in its direction
unfoldable pub joinable : ℕ → Circuit → Lit → ℕ → ℕ → Bool
joinable N c shared key rest = not (lit_bit shared (place_in rest)) && can_share N (direction_of (place_in rest)) (entry_of key rest).circuit c

-- with one entry more, at a position: it is the nearest where it stands lower and can be joined
abbrev pub nearer : ℕ → Circuit → Lit → ℕ → ℕ → ℕ → Nearest → Nearest
nearer N c shared key rest i v =
    pick (ltb (place_in rest) v.place && joinable N c shared key rest) (record { place = place_in rest; position = i }) v

-- of the first n positions, of which each has a place k, one whose place is the lowest below m among those that pass a test; or m
pub record Least (g : ℕ → Bool) (k : ℕ → ℕ) (m n : ℕ) (v : Nearest) : Type 0 where
  pub most : v.place ≤ m
  pub least : (j : ℕ) → j < n → g j ≡ true → v.place ≤ k j
  pub within : v.place < m → v.position < n
  pub passes : v.place < m → g v.position ≡ true
  pub stands : v.place < m → k v.position ≡ v.place

-- the tests of the entries at their positions, and their places
abbrev pub joinable_at : ℕ → Circuit → Lit → List ℕ → List ℕ → ℕ → Bool
joinable_at N c shared keys rests j = joinable N c shared (get_or keys j 0) (get_or rests j 0)

abbrev pub place_at : List ℕ → ℕ → ℕ
place_at rests j = place_in (get_or rests j 0)

-- a place found below the limit m has an entry
pub record Reached (m : ℕ) (keys rests : List ℕ) (v : Nearest) : Type 0 where
  pub key : v.place < m → v.position < length keys
  pub rest : v.place < m → v.position < length rests

-- that entry, or a blank circuit at the limit
abbrev pub standing_in : ℕ → List ℕ → List ℕ → Nearest → Standing
standing_in m keys rests v =
    pick (ltb v.place m) (entry_of (get_or keys v.position 0) (get_or rests v.position 0)) (record { place = m; circuit = blank_circuit })
