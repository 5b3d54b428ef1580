-- The walk: the lightpaths of each direction counted at their ends, by node, and the running load. Assumes nothing. Serves proofs inside only.
use Rattle.std.specs.Prelude.{ℕ, zero, suc, ◌+◌, ◌-◌, ◌≤◌, ◌<◌, ◌≡◌, true, List, [], ◌∷◌, ◌++◌, ltb, get_or, set}
use Rattle.basis.specs.Choice.{bit}
use Rattle.basis.specs.Count.{weigh}
use Rattle.limits.specs.Limits.{place_count, most_nodes}
use Rattle.lightpath.specs.Ends.{start_of, stop_of}
use Rattle.lightpath.specs.declared.Circuit.{Circuit}
use Rattle.lightpath.specs.declared.Direction.{Direction}
use Rattle.channels.specs.Channels.{Channels, at}
use Rattle.rules.specs.Rules.{ends}

-- an array with a count for each node has room for node 64; that for node 0 stays 0
abbrev pub node_room : ℕ
node_room = suc most_nodes

-- one more at node k
abbrev pub more : ℕ → List ℕ → List ℕ
more k counts = set counts k (get_or counts k 0 + 1)

-- some circuits counted at a node of each
abbrev pub counted : (Circuit → ℕ) → List Circuit → List ℕ → List ℕ
counted key [] counts = counts
counted key (c ∷ cs) counts = counted key cs (more (key c) counts)

-- how many lightpaths of direction d go over link N: they stop at a lower node than they start from
abbrev pub over_last : Direction → List Circuit → ℕ
over_last d cs = weigh (λ c. bit (ltb (stop_of d c) (start_of d c))) cs

-- both ends have a count
abbrev pub Inside : Circuit → Type 0
Inside c = (c.source < node_room) × (c.destination < node_room)

-- each count is a byte, with room for n more
pub record RoomFor (n : ℕ) (counts : List ℕ) : Type 0 where
  pub room : (k : ℕ) → k < node_room → get_or counts k 0 + n < 256

-- every circuit of the table has its ends on a ring of N nodes, and different
abbrev pub Joined : ℕ → Channels → Type 0
Joined N t = (p : ℕ) → p < place_count → ends N (at t p) ≡ true

-- the running load at link k of a walk from link N on, where the load is `first`: at each node those that start there are added and those
-- that stop there taken off
unfoldable pub running : List ℕ → List ℕ → ℕ → ℕ → ℕ
running starts stops first zero = first
running starts stops first (suc k) = running starts stops first k + get_or starts (suc k) 0 - get_or stops (suc k) 0

-- it is a byte, and never below zero, to link N
pub record Walks (N : ℕ) (starts stops : List ℕ) (first : ℕ) : Type 0 where
  pub added : (k : ℕ) → k < N → running starts stops first k + get_or starts (suc k) 0 < 256
  pub taken : (k : ℕ) → k < N → get_or stops (suc k) 0 ≤ running starts stops first k + get_or starts (suc k) 0

-- two numbers for each of 1 to k
unfoldable pub pairs_to : ℕ → (ℕ → ℕ) → (ℕ → ℕ) → List ℕ
pairs_to zero a b = []
pairs_to (suc k) a b = pairs_to k a b ++ (a (suc k) ∷ b (suc k) ∷ [])
