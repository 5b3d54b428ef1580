-- 02, E7: "Lookups by node should be short." The row of a node: the circuits that it sends, by rising number, each with its place. Assumes
-- nothing. What `row_of`, `position` and the line `from` promise.
use Rattle.std.specs.Prelude.{ℕ, suc, ◌+◌, List, [], ◌∷◌, eqb}
use Rattle.basis.specs.Choice.{pick}
use Rattle.basis.specs.Search.{first_place}
use Rattle.channels.specs.declared.Standing.{Standing}
use Rattle.entries.specs.Entry.{row_key}
use Rattle.entries.specs.Lists.{rank_of}
pub use Rattle.rows.specs.declared.Row.{Row}

-- of some entries, those of a node, in their order
abbrev pub row_of : ℕ → List Standing → List Standing
row_of node [] = []
row_of node (m ∷ ms) = pick (eqb m.circuit.source node) (m ∷ row_of node ms) (row_of node ms)

-- where the row stands among keys: from the first that is not below its beginning to the first that is not below the next one's
abbrev pub row_in : List ℕ → ℕ → Row
row_in keys node = record { start = rank_of (row_key node) keys; end = rank_of (row_key (suc node)) keys }

-- the position of the first key of a node and a number, or how many there are
unfoldable pub position_in : List ℕ → ℕ → ℕ → ℕ
position_in keys node number = first_place (λ x. eqb x (row_key node + number)) keys
