-- What placing a circuit asks of a request, on a ring of N nodes with the port counts ks and the places t. Assumes nothing.
-- What `RingTable::place` and `place_in` require.
use Rattle.std.specs.Prelude.{ℕ, ◌<◌, ◌≡◌, true, List}
use Rattle.lightpath.specs.Circuit.{joins}
use Rattle.lightpath.specs.declared.Circuit.{Circuit}
use Rattle.channels.specs.Channels.{Channels, circuits, numbered}
use Rattle.ports.specs.Ports.{ports_at}
use Rattle.ports_used.specs.PortsUsed.{sends, receives}

-- the circuit c joins two nodes of the ring, its number is not live, and its ports are free
pub record Allowable (N : ℕ) (ks : List ℕ) (t : Channels) (c : Circuit) : Type 0 where
  pub ends : joins N c ≡ true
  pub unused : numbered c.number (circuits t) ≡ 0
  pub sender : sends c.source (circuits t) < ports_at ks c.source
  pub receiver : receives c.destination (circuits t) < ports_at ks c.destination
