-- The checksum that the lookups by node write: of the circuits that each node sends, by rising number, nodes 1 to N in turn, all of it so many
-- times. Assumes nothing. What `by_rows` and `by_places` promise.
use Rattle.std.specs.Prelude.{ℕ, zero, suc, ◌+◌, ◌*◌, ◌%◌, ◌^◌, List, [], ◌∷◌}
use Rattle.channels.specs.declared.Standing.{Standing}
use Rattle.rows.specs.Row.{row_of}

-- with one circuit more
unfoldable pub with_entry : ℕ → Standing → ℕ
with_entry sum m = (sum * 31 + m.circuit.number + (m.circuit.destination * 7 + m.place)) % 2 ^ 32

-- with several, in their order
abbrev pub with_all : ℕ → List Standing → ℕ
with_all sum [] = sum
with_all sum (m ∷ ms) = with_all (with_entry sum m) ms

-- with the rows of the nodes 1 to n among some entries
unfoldable pub with_rows : List Standing → ℕ → ℕ → ℕ
with_rows es sum zero = sum
with_rows es sum (suc n) = with_all (with_rows es sum n) (row_of (suc n) es)

-- the rows of N nodes looked up so many times
unfoldable pub lookups : List Standing → ℕ → ℕ → ℕ
lookups es N zero = 0
lookups es N (suc k) = with_rows es (lookups es N k) N
