-- 02, E4: the loads from each link to the next clockwise, link 1 after link N. Assumes nothing. What the law of the loads says.
use Rattle.std.specs.Prelude.{ℕ}
use Rattle.lightpath.specs.declared.Direction.{Direction}
use Rattle.lightpath.specs.declared.Direction.TheVariants.{Clockwise as clockwise, Counterclockwise as counterclockwise}
use Rattle.channels.specs.Channels.{Channels}
use Rattle.ports_used.specs.PortsUsed.{sends, receives}
use Rattle.load.specs.Load.{lightpaths}

-- the clockwise load grows by the clockwise lightpaths from the node between, the counterclockwise load the other way about
abbrev pub grows : Channels → Direction → ℕ → ℕ
grows t clockwise i = sends i (lightpaths t clockwise)
grows t counterclockwise i = receives i (lightpaths t counterclockwise)

-- and falls by those to it
abbrev pub falls : Channels → Direction → ℕ → ℕ
falls t clockwise i = receives i (lightpaths t clockwise)
falls t counterclockwise i = sends i (lightpaths t counterclockwise)
