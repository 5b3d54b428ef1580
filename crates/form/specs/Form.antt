-- 01, "Saved form": the bytes of a ring table. Assumes nothing.
-- What `write` and `read` promise.
use Rattle.std.specs.Prelude.{ℕ, zero, suc, ◌+◌, Bool, true, false, not, List, [], ◌∷◌, ◌++◌, eqb, get_or, take}
use Rattle.basis.specs.Choice.{pick}
use Rattle.lightpath.specs.declared.Circuit.{Circuit}
use Rattle.slots.specs.declared.Slot.{Slot}
use Rattle.slots.specs.declared.Slot.TheVariants.{Unlit as unlit, Alone as alone, Shared as shared}
use Rattle.lit_words.specs.Lit.{word}
use Rattle.channels.specs.Channels.{Channels, lit_at}
use Rattle.ring.specs.declared.RingTable.{RingTable}
use Rattle.form.specs.Bytes.{high_first}

-- the map: place p is bit p modulo 8 (0 the lowest) of byte p / 8, so that each byte is the word of eight places. The k bytes for the
-- places from p on, by which of them are lit
unfoldable pub map_bytes : (ℕ → Bool) → ℕ → ℕ → List ℕ
map_bytes lit zero p = []
map_bytes lit (suc k) p = word lit 8 p ∷ map_bytes lit k (8 + p)

-- an optional field is there where it is not 0
abbrev pub present : ℕ → Bool
present v = not (eqb v 0)

-- and only then it is written, as so many bytes
unfoldable pub optional_bytes : ℕ → ℕ → List ℕ
optional_bytes width v = pick (present v) (high_first width v) []

-- how many bytes a number, a remark and an account have
abbrev pub number_width : ℕ
number_width = 4

abbrev pub remark_width : ℕ
remark_width = 2

abbrev pub account_width : ℕ
account_width = 4

-- each circuit's number (four bytes, highest first), source, destination (one byte each), and its optional fields: the remark (two bytes,
-- highest first); the account follows the circuit's remark, four bytes, highest first (02, E2)
unfoldable pub circuit_bytes : Circuit → List ℕ
circuit_bytes c = high_first number_width c.number ++ (c.source ∷ c.destination ∷ (optional_bytes remark_width c.remark ++ optional_bytes account_width c.account))

-- the field map: bit 0 first circuit has a remark, bit 1 second circuit present, bit 2 second has a remark, bit 3 first has an account,
-- bit 4 second has one (02, E2), others zero
abbrev pub field_bits : Slot → List Bool
field_bits unlit = []
field_bits (alone a) = present a.remark ∷ false ∷ false ∷ present a.account ∷ false ∷ []
field_bits (shared a b) = present a.remark ∷ true ∷ present b.remark ∷ present a.account ∷ present b.account ∷ []

-- the byte of some bits, 0 the lowest; those after them are zero
unfoldable pub field_map : List Bool → ℕ
field_map bits = word (λ b. get_or bits b false) 8 0

-- the field map, then each circuit; a place whose bit doesn't stand has no record
unfoldable pub record_bytes : Slot → List ℕ
record_bytes unlit = []
record_bytes (alone a) = field_map (field_bits (alone a)) ∷ circuit_bytes a
record_bytes (shared a b) = field_map (field_bits (shared a b)) ∷ (circuit_bytes a ++ circuit_bytes b)

-- the records by rising place
unfoldable pub records_bytes : Channels → List ℕ
records_bytes [] = []
records_bytes (ch ∷ chs) = record_bytes ch.slot ++ records_bytes chs

-- N bytes of k_i
abbrev pub ports_bytes : RingTable → List ℕ
ports_bytes t = take t.nodes t.ports

-- the map is 16 bytes
abbrev pub map_width : ℕ
map_width = 16

-- N, the ports, the map, the records
unfoldable pub form_of : RingTable → List ℕ
form_of t = t.nodes ∷ (ports_bytes t ++ (map_bytes (lit_at t.channels) map_width 0 ++ records_bytes t.channels))

-- at most 2,513 bytes (02, E2)
abbrev pub longest_form : ℕ
longest_form = 2513
