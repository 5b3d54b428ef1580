-- 01, "The ring": port counts, the wavelengths that they ask for, and the ring rules on them. A list of port counts has k_1 first.
-- Assumes nothing. What `limits_hold`, `spare_zero`, `wavelengths`, `place_limit` and `port_free` promise, and the ring rules say of ports.
use Rattle.std.specs.Prelude.{ℕ, zero, suc, ◌+◌, ◌*◌, ◌/◌, Bool, true, ◌&&◌, List, [], ◌∷◌, eqb, leb, get_or, drop}
use Rattle.basis.specs.Count.{total}
use Rattle.limits.specs.Limits.{least_nodes, most_nodes, port_fields, most_ports, most_total}

-- W is K / 3 rounded up, K the sum of all k_i; K = 0 is allowed, with W = 0
abbrev pub wavelengths : List ℕ → ℕ
wavelengths ks = (total ks + 2) / 3

-- 2 × W, the limit: places from there up stay unlit
abbrev pub limit_of : List ℕ → ℕ
limit_of ks = 2 * wavelengths ks

-- each count is at most m
abbrev pub each_at_most : ℕ → List ℕ → Bool
each_at_most m [] = true
each_at_most m (k ∷ ks) = leb k m && each_at_most m ks

-- node i, which counts from 1, has k_i transmitters and k_i receivers
abbrev pub ports_at : List ℕ → ℕ → ℕ
ports_at ks zero = 0
ports_at ks (suc j) = get_or ks j 0

-- N from 3 to 64, k_i from 0 to 64, K at most 192
abbrev pub limits : ℕ → List ℕ → Bool
limits N ks = leb least_nodes N && leb N most_nodes && each_at_most most_ports ks && leb (total ks) most_total

-- unused fields are zero: the port counts beyond N
abbrev pub spare_zero : ℕ → List ℕ → Bool
spare_zero N ks = eqb (total (drop N ks)) 0

-- what any bytes in the port fields add up to at most
abbrev pub most_sum : ℕ
most_sum = 255 * port_fields
