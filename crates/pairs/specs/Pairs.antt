-- 01, "Opening a circuit", step 3: what the search finds, a pair, with the looks, and x. Assumes nothing. Serves proofs inside only.
use Rattle.std.specs.Prelude.{ℕ, suc, ◌≤◌, ◌<◌, Bool, ◌&&◌, List, ltb, length, take, get_or}
use Rattle.basis.specs.Search.{first_place, pairs_of}
use Rattle.limits.specs.Limits.{place_count}
use Rattle.lightpath.specs.Place.{direction_of, same_direction}
use Rattle.lightpath.specs.Circuit.{blank_circuit}
use Rattle.lightpath.specs.declared.Direction.{Direction}
use Rattle.lightpath.specs.declared.Circuit.{Circuit}
use Rattle.channels.specs.Channels.{Channels}
use Rattle.channels.specs.declared.Standing.{Standing}
use Rattle.circuit_lists.specs.declared.Candidates.{Candidates}
use Rattle.steps.specs.Steps.{nowhere, candidates, passed_in, passed, found_pair, looks, lowest_alone, x_of}
pub use Rattle.pairs.specs.declared.Pair.{Pair}
pub use Rattle.pairs.specs.declared.Found.{Found}

-- all fields zero
abbrev pub blank_standing : Standing
blank_standing = record { place = 0; circuit = blank_circuit }

-- the list that an array of candidates holds
abbrev pub candidate_list : Candidates → List Standing
candidate_list all = take all.count all.list

-- the first adjacent pair of a list
abbrev pub pair_in : List Standing → Standing × Standing
pair_in l = get_or (pairs_of l) (passed_in l) (blank_standing, blank_standing)

-- the first adjacent pair of a list that has one, and the number of pairs tested, that one included
abbrev pub first_pair : List Standing → Pair
first_pair l = record { first = (pair_in l).0; second = (pair_in l).1; looks = suc (passed_in l) }

-- the same of the candidates for a new circuit c
abbrev pub pair_of : ℕ → Channels → Circuit → Pair
pair_of m t c = record { first = (found_pair m t c).0; second = (found_pair m t c).1; looks = looks m t c }

-- a candidate stands in direction d; the new one stands nowhere
abbrev pub stands_in : Direction → Standing → Bool
stands_in d s = ltb s.place nowhere && same_direction (direction_of s.place) d

-- the first of a list that does, or a blank one
abbrev pub first_in : Direction → List Standing → Standing
first_in d l = get_or l (first_place (stands_in d) l) blank_standing

-- the pair, and x
abbrev pub found_of : ℕ → ℕ → Channels → Circuit → Found
found_of N m t c = record { pair = pair_of m t c; x = x_of N m t (found_pair m t c).0 (found_pair m t c).1 }

-- the paper's two claims, where steps 1 and 2 find no place: there is an adjacent pair, and a nonsharing circuit each way round
pub record Searchable (N m : ℕ) (t : Channels) (c : Circuit) : Type 0 where
  pub nodes : 0 < N
  pub low : m ≤ place_count
  pub pair : passed m t c < length (pairs_of (candidates m t c))
  pub lane : (d : Direction) → lowest_alone m t d < m
