-- 01, "The ring": the numbers that limit a ring, each once. Assumes nothing. What every promise means by these names.
use Rattle.std.specs.Prelude.{ℕ, ◌*◌, ◌/◌}

-- a table has 128 directed wavelength places
abbrev pub place_count : ℕ
place_count = 128

-- half of them in each direction
abbrev pub most_wavelengths : ℕ
most_wavelengths = place_count / 2

-- N from 3 to 64
abbrev pub least_nodes : ℕ
least_nodes = 3

abbrev pub most_nodes : ℕ
most_nodes = 64

-- a table has a port field for each node that there can be
abbrev pub port_fields : ℕ
port_fields = most_nodes

-- k_i from 0 to 64
abbrev pub most_ports : ℕ
most_ports = 64

-- K is the sum of all k_i, at most 192
abbrev pub most_total : ℕ
most_total = 192

-- each circuit has a port of its source, so a ring has at most as many circuits
abbrev pub most_circuits : ℕ
most_circuits = most_total

-- the host lends a list of move records, at least three
abbrev pub least_records : ℕ
least_records = 3

-- 02, E5: for a tidying "the lent list needs 128 records"
abbrev pub tidy_records : ℕ
tidy_records = 128

-- a place holds none, one or two circuits: what all places have room for
abbrev pub circuit_room : ℕ
circuit_room = 2 * place_count
