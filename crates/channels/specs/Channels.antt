-- 01, "The ring": a table has 128 directed wavelength places, lit or not. Assumes nothing. What the calls of the ring table promise.
use Rattle.std.specs.Prelude.{ℕ, Bool, List, [], ◌∷◌, ◌++◌, ltb, get_or, replicate}
use Rattle.basis.specs.Choice.{bit}
use Rattle.basis.specs.Count.{weigh, tally}
use Rattle.basis.specs.Search.{first_below}
use Rattle.limits.specs.Limits.{place_count}
use Rattle.lightpath.specs.declared.Circuit.{Circuit}
use Rattle.slots.specs.Slot.{held, is_lit, named, holds}
use Rattle.slots.specs.declared.Slot.{Slot}
use Rattle.slots.specs.declared.Slot.TheVariants.{Unlit as unlit}
use Rattle.lit_words.specs.Lit.{words_of}
use Rattle.lit_words.specs.declared.Lit.{Lit}
pub use Rattle.channels.specs.declared.Channel.{Channel}

-- the places of a table
abbrev pub Channels : Type 0
Channels = List Channel

-- a blank place
abbrev pub unlit_channel : Channel
unlit_channel = record { slot = unlit }

-- 128 blank places
abbrev pub unlit_channels : Channels
unlit_channels = replicate place_count unlit_channel

-- the content of place p; a place that there is not is unlit
abbrev pub at : Channels → ℕ → Slot
at t p = (get_or t p unlit_channel).slot

-- the contents of all places
abbrev pub slots : Channels → List Slot
slots [] = []
slots (ch ∷ chs) = ch.slot ∷ slots chs

-- the circuits that some places hold, by rising place
abbrev pub all_held : List Slot → List Circuit
all_held [] = []
all_held (s ∷ u) = held s ++ all_held u

-- every circuit of the table, by rising place
abbrev pub circuits : Channels → List Circuit
circuits t = all_held (slots t)

-- how many circuits of a list have number n
abbrev pub numbered : ℕ → List Circuit → ℕ
numbered n cs = tally (λ c. c.number) n cs

-- a number is live when a circuit of the table has it
abbrev pub live : Channels → ℕ → Bool
live t n = ltb 0 (numbered n (circuits t))

-- the place of the circuit with number n, or 128 where none has it
abbrev pub where_is : Channels → ℕ → ℕ
where_is t n = first_below place_count (λ p. holds n (at t p))

-- the live circuit of number n
abbrev pub circuit_of : Channels → ℕ → Circuit
circuit_of t n = named n (at t (where_is t n))

-- how many places are lit
abbrev pub lit_places : Channels → ℕ
lit_places t = weigh (λ s. bit (is_lit s)) (slots t)

-- whether place p is lit, and the two words that say it of all places
abbrev pub lit_at : Channels → ℕ → Bool
lit_at t p = is_lit (at t p)

abbrev pub lit_of : Channels → Lit
lit_of t = words_of (lit_at t)
