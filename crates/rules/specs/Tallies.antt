-- Circuits counted by node in an array. Assumes nothing. Serves proofs inside only.
use Rattle.std.specs.Prelude.{ℕ, ◌+◌, Bool, ◌&&◌, List, leb, get_or, take}
use Rattle.basis.specs.Tallied.{Tallied as KeyTallied}
use Rattle.basis.specs.Search.{every_below}
use Rattle.limits.specs.Limits.{most_nodes}
use Rattle.lightpath.specs.declared.Circuit.{Circuit}

-- a node is a byte
abbrev pub byte_values : ℕ
byte_values = 256

-- the first n circuits of an array are counted by key
pub record Tallied (key : Circuit → ℕ) (cs : List Circuit) (n : ℕ) (counts : List ℕ) : Type 0 where
  pub first : KeyTallied key (take n cs) byte_values counts

-- by two such arrays, node j + 1 has ports enough for what it sends and what it receives
abbrev pub enough_at : List ℕ → List ℕ → List ℕ → ℕ → Bool
enough_at ks sent received j = leb (get_or sent (j + 1) 0) (get_or ks j 0) && leb (get_or received (j + 1) 0) (get_or ks j 0)

-- and so has each node
abbrev pub enough : List ℕ → List ℕ → List ℕ → Bool
enough ks sent received = every_below most_nodes (enough_at ks sent received)
