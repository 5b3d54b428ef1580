-- What an opening, a closing or a tidying does to a table: places get new contents, one after the other. Assumes nothing.
-- What the calls of the ring table promise.
use Rattle.std.specs.Prelude.{ℕ, List, [], ◌∷◌, set}
use Rattle.slots.specs.declared.Slot.{Slot}
use Rattle.channels.specs.Channels.{Channels}
pub use Rattle.channels.specs.declared.Change.{Change}

infix 20 ◌gets◌
-- place p gets the content s
abbrev pub ◌gets◌ : ℕ → Slot → Change
p gets s = record { place = p; slot = s }

-- the places after one change
abbrev pub put : Change → Channels → Channels
put ch t = set t ch.place (record { slot = ch.slot })

-- and after several
abbrev pub puts : List Change → Channels → Channels
puts [] t = t
puts (ch ∷ chs) t = puts chs (put ch t)
