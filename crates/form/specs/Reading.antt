-- 01, "Saved form" and "Order": a form is checked left to right: N; the ports present; 2; 3; the map; each record in turn; 32; 33.
-- Each refusal is named by its number (`number_of`). Assumes nothing. What `read` promises.
use Rattle.std.specs.Prelude.{ℕ, zero, suc, ◌/◌, ◌%◌, ◌≡◌, Bool, true, false, ◌&&◌, ◌||◌, not, List, [], ◌∷◌, leb, ltb, length, get_or, Ok, Err}
use Rattle.basis.specs.Count.{total}
use Rattle.limits.specs.Limits.{least_nodes, most_nodes, most_ports, most_total, place_count}
use Rattle.lightpath.specs.declared.Circuit.{Circuit}
use Rattle.slots.specs.declared.Slot.{Slot}
use Rattle.slots.specs.declared.Slot.TheVariants.{Unlit as unlit, Alone as alone, Shared as shared}
use Rattle.lit_words.specs.Lit.{bit_of, none_lit_from}
use Rattle.channels.specs.Channels.{Channels}
use Rattle.ports.specs.Ports.{limit_of, each_at_most}
use Rattle.refusals.specs.Refusal.{number_of}
use Rattle.refusals.specs.Answer.{Answer, refusal, done}
use Rattle.refusals.specs.declared.Refusal.TheVariants.{NodeCount as no_1, PortCount as no_2, PortSum as no_3, CutShort as no_30, BadField as no_31, TrailingBytes as no_32, BrokenForm as no_33}
use Rattle.ring.specs.Table.{meets_rules, blank_table, fresh_table, with_channels}
use Rattle.ring.specs.declared.RingTable.{RingTable}
use Rattle.ring.specs.declared.Answered.{Answered}
use Rattle.form.specs.Bytes.{number_in}
use Rattle.form.specs.Form.{present, number_width, remark_width, account_width, map_width}
use Rattle.form.specs.Reader.{Field, got, fault, Reader, ◌>>=◌, ◌>>◌, give, ◌unless◌, byte, bytes, end}

-- N, then the ports of its nodes
unfoldable pub read_ports : Reader (List ℕ)
read_ports = do
  N ← byte
  no_1 unless leb least_nodes N && leb N most_nodes
  ks ← bytes N
  no_2 unless each_at_most most_ports ks
  no_3 unless leb (total ks) most_total
  give ks

-- place p is bit p modulo 8 (0 the lowest) of byte p / 8 of the map
unfoldable pub map_bit : List ℕ → ℕ → Bool
map_bit m p = bit_of (get_or m (p / 8) 0) (p % 8)

-- the map is one field; 31 where its bits fail the test `holds`
unfoldable pub read_map_by : ((ℕ → Bool) → Bool) → Reader (List ℕ)
read_map_by holds = do
  m ← bytes map_width
  no_31 unless holds (map_bit m)
  give m

-- an optional field of so many bytes where its bit stands, which is then not 0
unfoldable pub read_optional : ℕ → Bool → Reader ℕ
read_optional width false = give 0
read_optional width true = do
  v ← bytes width
  no_31 unless present (number_in v)
  give (number_in v)

-- number, source, destination, and the optional fields whose bits stand: the remark, the account
unfoldable pub read_circuit : Bool → Bool → Reader Circuit
read_circuit remarked billed = do
  n ← bytes number_width
  source ← byte
  destination ← byte
  remark ← read_optional remark_width remarked
  account ← read_optional account_width billed
  give (record { number = number_in n; source = source; destination = destination; remark = remark; account = account })

-- bits 5 to 7 are zero, and bits 2 and 4 don't stand without bit 1 (02, E2)
unfoldable pub map_holds : ℕ → Bool
map_holds m = ltb m 32 && (bit_of m 1 || not (bit_of m 2 || bit_of m 4))

-- the second circuit, where there is one
unfoldable pub read_second : Circuit → Bool → Bool → Bool → Reader Slot
read_second a false remarked billed = give (alone a)
read_second a true remarked billed = do
  b ← read_circuit remarked billed
  give (shared a b)

-- the field map, 31 where it fails the test `holds`, then each circuit
unfoldable pub read_record_by : (ℕ → Bool) → Reader Slot
read_record_by holds = do
  m ← byte
  no_31 unless holds m
  a ← read_circuit (bit_of m 0) (bit_of m 3)
  read_second a (bit_of m 1) (bit_of m 2) (bit_of m 4)

abbrev pub read_record : Reader Slot
read_record = read_record_by map_holds

-- a place whose bit doesn't stand has no record
unfoldable pub read_place_by : Reader Slot → Bool → Reader Slot
read_place_by one false = give unlit
read_place_by one true = one

abbrev pub read_place : Bool → Reader Slot
read_place = read_place_by read_record

-- the records of the k places from p on, each read by `one`
unfoldable pub read_records_by : Reader Slot → (ℕ → Bool) → ℕ → ℕ → Reader Channels
read_records_by one lit zero p = give []
read_records_by one lit (suc k) p = do
  slot ← read_place_by one (lit p)
  chs ← read_records_by one lit k (suc p)
  give (record { slot = slot } ∷ chs)

abbrev pub read_records : (ℕ → Bool) → ℕ → ℕ → Reader Channels
read_records = read_records_by read_record

-- the table that was read; 33 where it fails the test `meets`
unfoldable pub checked_by : (RingTable → Bool) → List ℕ → Channels → Reader RingTable
checked_by meets ks chs = do
  let t = with_channels (fresh_table (length ks) ks) chs
  no_33 unless meets t
  give t

-- what a form is tested for: the bits of its map, for the ports before it; each field map; the table at its end
pub record Tests : Type 0 where
  pub map : List ℕ → (ℕ → Bool) → Bool
  pub fields : ℕ → Bool
  pub table : RingTable → Bool

-- the whole form, by such tests
abbrev pub read_by : Tests → Reader RingTable
read_by tests = do
  ks ← read_ports
  m ← read_map_by (tests.map ks)
  chs ← read_records_by (read_record_by tests.fields) (map_bit m) place_count 0
  end
  checked_by tests.table ks chs

-- no bit of the map stands at 2 × W or above
abbrev pub unlit_above : List ℕ → (ℕ → Bool) → Bool
unlit_above ks lit = none_lit_from (limit_of ks) lit

-- the tests of now; a table that breaks a ring rule is 33
abbrev pub tests_now : Tests
tests_now = record { map = unlit_above; fields = map_holds; table = meets_rules }

-- the whole form
unfoldable pub read_table : Reader RingTable
read_table = read_by tests_now

-- a refused reading hands back the blank table
abbrev pub answered_by : Field RingTable → Answered
answered_by (got t s) = record { table = t; verdict = Ok tt }
answered_by (fault r) = record { table = blank_table; verdict = Err r }

unfoldable pub read_of : List ℕ → Answered
read_of s = answered_by (read_table s)

-- 01's number of the answer: that of the refusal, or 0
abbrev pub answer_in : Field RingTable → Answer
answer_in (got t s) = done []
answer_in (fault r) = refusal (number_of r)

unfoldable pub read_answer : List ℕ → Answer
read_answer s = answer_in (read_table s)

-- the refusals of reading have the numbers that they are named by here
abbrev pub NamesAreNumbers : Type 0
NamesAreNumbers =
    (number_of no_1 ≡ 1) × (number_of no_2 ≡ 2) × (number_of no_3 ≡ 3) × (number_of no_30 ≡ 30) × (number_of no_31 ≡ 31) × (number_of no_32 ≡ 32)
    × (number_of no_33 ≡ 33)
