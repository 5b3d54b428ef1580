-- 01, "The ring": the ring table. Tables are equal when they agree in every field. Assumes nothing.
-- What the calls of the ring table promise.
use Rattle.std.specs.Prelude.{ℕ, ◌-◌, Bool, List, ◌++◌, length, replicate}
use Rattle.limits.specs.Limits.{port_fields}
use Rattle.channels.specs.Channels.{Channels, unlit_channels}
use Rattle.rules.specs.Rules.{ring_rules}
pub use Rattle.ring.specs.declared.RingTable.{RingTable}

-- the table meets the ring rules
abbrev pub meets_rules : RingTable → Bool
meets_rules t = ring_rules t.nodes t.ports t.channels

-- the blank table, all zeros
abbrev pub blank_table : RingTable
blank_table = record { nodes = 0; ports = replicate port_fields 0; channels = unlit_channels }

-- a ring of N nodes with the port counts ks, those beyond N zero, and every place unlit
abbrev pub fresh_table : ℕ → List ℕ → RingTable
fresh_table N ks = record { nodes = N; ports = ks ++ replicate (port_fields - length ks) 0; channels = unlit_channels }

-- the table with other places; N and the port counts stay
abbrev pub with_channels : RingTable → Channels → RingTable
with_channels t chs = record { nodes = t.nodes; ports = t.ports; channels = chs }
