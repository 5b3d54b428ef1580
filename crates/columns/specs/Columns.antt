-- The room that a row's columns take, made of that of a cell. Assumes nothing. What `put_columns` promises.
use Rattle.std.specs.Prelude.{ℕ, ◌+◌, ◌*◌}
use Rattle.limits.specs.Limits.{most_nodes}
use Rattle.text.specs.Decimal.{most_digits}

-- a cell: the space that parts its column from the one before, and the digits
abbrev pub cell_room : ℕ
cell_room = 1 + most_digits

-- the cells of a row: one for each link or node
abbrev pub cells_room : ℕ
cells_room = most_nodes * cell_room

-- with the line end
abbrev pub columns_room : ℕ
columns_room = cells_room + 1
