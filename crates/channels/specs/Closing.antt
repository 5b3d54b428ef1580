-- 01, "Closing takes the circuit off and moves none." Assumes nothing. What `RingTable::close` promises.
use Rattle.std.specs.Prelude.{ℕ, List, [], ◌∷◌}
use Rattle.slots.specs.Slot.{without}
use Rattle.channels.specs.Channels.{Channels, at, where_is}
use Rattle.channels.specs.Change.{Change, ◌gets◌, puts}

-- the place of the circuit with number n gets what is left without it
abbrev pub closing : Channels → ℕ → List Change
closing t n = (where_is t n gets without n (at t (where_is t n))) ∷ []

-- the places after it
abbrev pub closed : Channels → ℕ → Channels
closed t n = puts (closing t n) t
