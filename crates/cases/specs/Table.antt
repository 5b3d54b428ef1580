-- The cases that document 01 marks P, its script request by request, and those of document 02, in one table. Assumes nothing.
-- 01's and 02's cases, for a reader to check beside them.
use Rattle.std.specs.Prelude.{ℕ, zero, suc, ◌+◌, ◌-◌, ◌*◌, ◌%◌, List, [], ◌∷◌, ◌++◌, map, ℤ, pos, neg_ℤ, length, replicate}
use Rattle.lightpath.specs.declared.Direction.TheVariants.{Clockwise as clockwise, Counterclockwise as counterclockwise}
use Rattle.lightpath.specs.declared.Circuit.{Circuit}
use Rattle.slots.specs.declared.Slot.{Slot}
use Rattle.slots.specs.declared.Slot.TheVariants.{Unlit as unlit, Alone as alone, Shared as shared}
use Rattle.channels.specs.Channels.{unlit_channel}
use Rattle.moves.specs.declared.Move.{Move}
use Rattle.moves.specs.Lent.{blanks}
use Rattle.refusals.specs.Answer.{refusal}
use Rattle.ring.specs.declared.RingTable.{RingTable}
use Rattle.ring.specs.Table.{blank_table}
use Rattle.roster.specs.declared.Roster.{Roster}
use Rattle.roster.specs.Roster.{blank_roster}
use Rattle.form.specs.Form.{form_of}
use Rattle.cases.specs.Case.{pair, pair_before_e1, ports, making, opening, closing, tidying, saving, reading, tuning, tracing, reporting, stepping, arranging, unarranging, opening_on, closing_on, tidying_on, sending, sending_numbered, Question, shares, not_adjacent, dimensions, saved, told, reported, stepped, arranged_as, done, refused, opened, not_opened, tidied, not_tidied, Answer, Case, ◌gives◌}

-- a circuit without a remark and without an account: number, source, destination
abbrev circuit : ℕ → ℕ → ℕ → Circuit
circuit n s d = record { number = n; source = s; destination = d; remark = 0; account = 0 }

infix 20 ◌⟶◌
-- one whose number does not matter
abbrev ◌⟶◌ : ℕ → ℕ → Circuit
s ⟶ d = circuit 0 s d

-- number, old place, new place
abbrev move : ℕ → ℕ → ℕ → Move
move n p q = record { number = n; from = record { 0 = p }; to = record { 0 = q } }

-- a record that no move is written in
abbrev blank : Move
blank = move 0 0 0

-- a ring of N nodes with the port counts ks; its lowest places hold u, the others nothing
abbrev ring : ℕ → List ℕ → List Slot → RingTable
ring N ks u = record {
  nodes = N;
  ports = ks ++ replicate (64 - length ks) 0;
  channels = map (λ s. record { slot = s }) u ++ replicate (128 - length u) unlit_channel;
}

-- the ring of document 01's script
abbrev ring5 : List Slot → RingTable
ring5 u = ring 5 (replicate 5 1) u

-- its circuits
abbrev c11 : Circuit
c11 = circuit 11 1 5

abbrev c12 : Circuit
c12 = circuit 12 2 3

abbrev c13 : Circuit
c13 = circuit 13 4 1

abbrev c14 : Circuit
c14 = circuit 14 3 2

abbrev c15 : Circuit
c15 = circuit 15 5 4

abbrev c16 : Circuit
c16 = circuit 16 4 1

-- its tables, each named by the request before it
abbrev made : RingTable
made = ring5 []

abbrev opened11 : RingTable
opened11 = ring5 (unlit ∷ alone c11 ∷ [])

abbrev opened12 : RingTable
opened12 = ring5 (alone c12 ∷ alone c11 ∷ [])

abbrev opened13 : RingTable
opened13 = ring5 (alone c12 ∷ shared c11 c13 ∷ [])

abbrev opened14 : RingTable
opened14 = ring5 (shared c12 c14 ∷ shared c11 c13 ∷ [])

abbrev opened15 : RingTable
opened15 = ring5 (shared c12 c14 ∷ shared c11 c13 ∷ unlit ∷ alone c15 ∷ [])

abbrev closed13 : RingTable
closed13 = ring5 (shared c12 c14 ∷ alone c11 ∷ unlit ∷ alone c15 ∷ [])

abbrev opened16 : RingTable
opened16 = ring5 (shared c12 c14 ∷ shared c11 c16 ∷ unlit ∷ alone c15 ∷ [])

-- the table before 15 as 01 alone, without E1 and E6, makes it
abbrev before15 : RingTable
before15 = ring5 (alone c11 ∷ alone c12 ∷ alone c13 ∷ alone c14 ∷ [])

-- a circuit and its return at different places, of which the lower is counterclockwise: examples/returns.script before 57
abbrev ring4 : List Slot → RingTable
ring4 u = ring 4 (2 ∷ 1 ∷ 2 ∷ 1 ∷ []) u

abbrev returns : RingTable
returns = ring4 (shared (circuit 51 4 1) (circuit 52 3 4) ∷ alone (circuit 55 3 1) ∷ alone (circuit 53 1 3) ∷ alone (circuit 56 1 2) ∷ [])

-- a ring of three nodes with a port each
abbrev ring3 : List Slot → RingTable
ring3 u = ring 3 (replicate 3 1) u

-- its saved form with these bytes as the record of place 0, and no other record
abbrev form3 : List ℕ → List ℕ
form3 bytes = 3 ∷ 1 ∷ 1 ∷ 1 ∷ 1 ∷ (replicate 15 0 ++ bytes)

-- the two circuits of that record, each with a remark and an account
abbrev first : ℕ → ℕ → Circuit
first r x = record { number = 7; source = 1; destination = 2; remark = r; account = x }

abbrev second : ℕ → ℕ → Circuit
second r x = record { number = 8; source = 2; destination = 3; remark = r; account = x }

-- their fields as bytes: the first, its remark 258 and its account 16,909,060; the second, its remark 513 and its account 67,305,985
abbrev n1 : List ℕ
n1 = 0 ∷ 0 ∷ 0 ∷ 7 ∷ 1 ∷ 2 ∷ []

abbrev r1 : List ℕ
r1 = 1 ∷ 2 ∷ []

abbrev a1 : List ℕ
a1 = 1 ∷ 2 ∷ 3 ∷ 4 ∷ []

abbrev n2 : List ℕ
n2 = 0 ∷ 0 ∷ 0 ∷ 8 ∷ 2 ∷ 3 ∷ []

abbrev r2 : List ℕ
r2 = 2 ∷ 1 ∷ []

abbrev a2 : List ℕ
a2 = 4 ∷ 3 ∷ 2 ∷ 1 ∷ []

-- the field maps with bit 2 or bit 4 and without bit 1, and those of bits 5, 6 and 7
abbrev bad_maps : List ℕ
bad_maps = 4 ∷ 5 ∷ 12 ∷ 13 ∷ 16 ∷ 17 ∷ 20 ∷ 21 ∷ 24 ∷ 25 ∷ 28 ∷ 29 ∷ 32 ∷ 64 ∷ 128 ∷ []

-- what a record of these bytes is read as; by what it is refused
infix 70 ◌readAs◌
abbrev ◌readAs◌ : List ℕ → List Slot → Case
bytes readAs u = reading (form3 bytes) gives done (ring3 u)

infix 70 ◌refusedBy◌
abbrev ◌refusedBy◌ : List ℕ → ℕ → Case
bytes refusedBy n = reading (form3 bytes) gives refused n blank_table

-- a ring of 64 nodes with three ports each, all of them in use, and every place lit: a circuit and its return at each of the lower 64 places,
-- one circuit at each of the others, all with a remark and an account
abbrev billed : ℕ → ℕ → ℕ → Circuit
billed n s d = record { number = n; source = s; destination = d; remark = n; account = n }

abbrev there_and_back : ℕ → Slot
there_and_back i = let next = i % 64 + 1 in shared (billed (2 * i) i next) (billed (2 * i + 1) next i)

abbrev onward : ℕ → Slot
onward i = alone (billed (200 + i) i ((i + 1) % 64 + 1))

-- the nodes from i on, k of them
abbrev nodes_from : ℕ → ℕ → List ℕ
nodes_from zero i = []
nodes_from (suc k) i = i ∷ nodes_from k (suc i)

abbrev full_ring : RingTable
full_ring = ring 64 (replicate 64 3) (map there_and_back (nodes_from 64 1) ++ map onward (nodes_from 64 1))

-- the frequency of wavelength w of the plan with spacing s from n, and the wavelength at frequency f; −n
abbrev frequency : ℕ → ℤ → ℕ → Question
frequency s n w = tuning (record { spacing = s; start = n }) w

abbrev wavelength : ℕ → ℤ → ℕ → Question
wavelength s n f = tracing (record { spacing = s; start = n }) f

abbrev minus : ℕ → ℤ
minus n = neg_ℤ (pos n)

-- the value told, or the number that refuses
abbrev is : ℕ → Answer
is v = told (record { number = 0; values = v ∷ [] })

abbrev is_refused : ℕ → Answer
is_refused n = told (refusal n)

-- the frequencies of 02's E3
abbrev frequencies : List Case
frequencies =
    -- 50 GHz from −3: its first, second, 193.1 THz and its last, there and back
    frequency 500 (minus 3) 0 gives is 1929500
    ∷ frequency 500 (minus 3) 1 gives is 1930000
    ∷ frequency 500 (minus 3) 3 gives is 1931000
    ∷ frequency 500 (minus 3) 63 gives is 1961000
    ∷ wavelength 500 (minus 3) 1929500 gives is 0
    ∷ wavelength 500 (minus 3) 1930000 gives is 1
    ∷ wavelength 500 (minus 3) 1931000 gives is 3
    ∷ wavelength 500 (minus 3) 1961000 gives is 63
    -- both ends of each spacing's range
    ∷ frequency 125 (minus 200) 0 gives is 1906000
    ∷ frequency 250 (minus 200) 0 gives is 1881000
    ∷ frequency 500 (minus 200) 0 gives is 1831000
    ∷ frequency 1000 (minus 200) 0 gives is 1731000
    ∷ frequency 125 (pos 200) 63 gives is 1963875
    ∷ frequency 250 (pos 200) 63 gives is 1996750
    ∷ frequency 500 (pos 200) 63 gives is 2062500
    ∷ frequency 1000 (pos 200) 63 gives is 2194000
    ∷ wavelength 125 (minus 200) 1906000 gives is 0
    ∷ wavelength 250 (minus 200) 1881000 gives is 0
    ∷ wavelength 500 (minus 200) 1831000 gives is 0
    ∷ wavelength 1000 (minus 200) 1731000 gives is 0
    ∷ wavelength 125 (pos 200) 1963875 gives is 63
    ∷ wavelength 250 (pos 200) 1996750 gives is 63
    ∷ wavelength 500 (pos 200) 2062500 gives is 63
    ∷ wavelength 1000 (pos 200) 2194000 gives is 63
    -- the spacing before the start, the start before the wavelength
    ∷ frequency 120 (pos 201) 64 gives is_refused 41
    ∷ frequency 125 (pos 201) 64 gives is_refused 42
    ∷ frequency 125 (minus 201) 0 gives is_refused 42
    ∷ frequency 125 (pos 200) 64 gives is_refused 16
    ∷ frequency 125 (pos 200) 256 gives is_refused 16
    -- and before the frequency
    ∷ wavelength 0 (pos 201) 0 gives is_refused 41
    ∷ wavelength 125 (minus 201) 0 gives is_refused 42
    ∷ wavelength 125 (pos 201) 1931000 gives is_refused 42
    -- one spacing below the start, 100 MHz below it, 100 MHz above it, half a spacing above it, one spacing above the last
    ∷ wavelength 500 (minus 3) 1929000 gives is_refused 43
    ∷ wavelength 500 (minus 3) 1929499 gives is_refused 43
    ∷ wavelength 500 (minus 3) 1929501 gives is_refused 43
    ∷ wavelength 500 (minus 3) 1929750 gives is_refused 43
    ∷ wavelength 500 (minus 3) 1961500 gives is_refused 43
    -- half a spacing below a start above 0; less than a spacing from 193.1 THz, where a quotient would be 0, either side; the lowest
    -- frequency that there is, and the highest
    ∷ wavelength 1000 (pos 3) 1933500 gives is_refused 43
    ∷ wavelength 1000 (pos 0) 1930001 gives is_refused 43
    ∷ wavelength 1000 (pos 0) 1931999 gives is_refused 43
    ∷ wavelength 1000 (pos 0) 0 gives is_refused 43
    ∷ wavelength 1000 (pos 0) 4294967295 gives is_refused 43
    ∷ []

-- a report that is made leaves these bytes
abbrev bytes : List ℕ → Answer
bytes l = reported (record { number = 0; values = [] }) l

-- circuits both ways, and two shared places
abbrev both_ways : RingTable
both_ways = ring5 (alone c11 ∷ shared c12 c14 ∷ unlit ∷ shared c15 c16 ∷ [])

-- 02, E4: load reports, and loads from link to link
abbrev loads : List Case
loads =
    reporting made 10 gives bytes (replicate 10 0)
    ∷ reporting opened11 10 gives bytes (0 ∷ 0 ∷ 0 ∷ 0 ∷ 0 ∷ 0 ∷ 0 ∷ 0 ∷ 0 ∷ 1 ∷ [])
    ∷ reporting opened16 10 gives bytes (replicate 10 1)
    ∷ reporting both_ways 12 gives bytes (1 ∷ 2 ∷ 1 ∷ 2 ∷ 1 ∷ 2 ∷ 1 ∷ 2 ∷ 0 ∷ 1 ∷ 99 ∷ 99 ∷ [])
    ∷ reporting both_ways 9 gives reported (refusal 21) (replicate 9 99)
    ∷ reporting blank_table 12 gives reported (refusal 22) (replicate 12 99)
    -- link 1 after link 5
    ∷ stepping both_ways clockwise 5 gives stepped 1 0 1 0 1
    ∷ stepping both_ways counterclockwise 5 gives stepped 1 1 1 0 2
    -- one begins where another ends, and two steps where one ends
    ∷ stepping both_ways counterclockwise 1 gives stepped 2 2 1 1 2
    ∷ stepping both_ways counterclockwise 4 gives stepped 5 2 0 1 1
    ∷ stepping both_ways clockwise 4 gives stepped 5 1 0 1 0
    ∷ []

-- six nodes with two ports each: eight places
abbrev ring6 : List Slot → RingTable
ring6 u = ring 6 (replicate 6 2) u

-- 1→3 with 3→4 shares clockwise, 1→5 with 5→4 counterclockwise, 2→3 with 3→2 both ways
abbrev a13 : Circuit
a13 = circuit 1 1 3

abbrev b34 : Circuit
b34 = circuit 2 3 4

abbrev a15 : Circuit
a15 = circuit 1 1 5

abbrev b54 : Circuit
b54 = circuit 2 5 4

abbrev a23 : Circuit
a23 = circuit 1 2 3

abbrev b32 : Circuit
b32 = circuit 2 3 2

-- four circuits that fill one direction of this ring; 1→4, 1→6 and 6→1 can join none of them
abbrev fill1 : Slot
fill1 = alone (circuit 31 2 3)

abbrev fill2 : Slot
fill2 = alone (circuit 32 2 3)

abbrev fill3 : Slot
fill3 = alone (circuit 33 3 5)

abbrev fill4 : Slot
fill4 = alone (circuit 34 3 5)

-- the hops are 3, 5 and 1 of six
abbrev c14of6 : Circuit
c14of6 = circuit 7 1 4

abbrev c16of6 : Circuit
c16of6 = circuit 7 1 6

abbrev c61of6 : Circuit
c61of6 = circuit 7 6 1

-- 02, E6: step 2
abbrev shorter_ways : List Case
shorter_ways =
    -- clockwise, counterclockwise, and clockwise when equal
    opening (ring6 []) c61of6 gives opened 0 0 0 blanks (ring6 (alone c61of6 ∷ []))
    ∷ opening (ring6 []) c16of6 gives opened 1 0 0 blanks (ring6 (unlit ∷ alone c16of6 ∷ []))
    ∷ opening (ring6 []) c14of6 gives opened 0 0 0 blanks (ring6 (alone c14of6 ∷ []))
    -- the lowest unlit place of that direction, past lower ones of the other
    ∷ opening (ring6 (unlit ∷ fill1 ∷ [])) c16of6 gives opened 3 0 0 blanks (ring6 (unlit ∷ fill1 ∷ unlit ∷ alone c16of6 ∷ []))
    ∷ opening (ring6 (fill1 ∷ unlit ∷ fill2 ∷ [])) c61of6 gives opened 4 0 0 blanks (ring6 (fill1 ∷ unlit ∷ fill2 ∷ unlit ∷ alone c61of6 ∷ []))
    -- that direction is full: the other one, and no place at or above 2 × W
    ∷ opening (ring6 (fill1 ∷ unlit ∷ fill2 ∷ unlit ∷ fill3 ∷ unlit ∷ fill4 ∷ [])) c61of6
    gives opened 1 0 0 blanks (ring6 (fill1 ∷ alone c61of6 ∷ fill2 ∷ unlit ∷ fill3 ∷ unlit ∷ fill4 ∷ []))
    ∷ opening (ring6 (unlit ∷ fill1 ∷ unlit ∷ fill2 ∷ unlit ∷ fill3 ∷ unlit ∷ fill4 ∷ [])) c16of6
    gives opened 0 0 0 blanks (ring6 (alone c16of6 ∷ fill1 ∷ unlit ∷ fill2 ∷ unlit ∷ fill3 ∷ unlit ∷ fill4 ∷ []))
    ∷ opening (ring6 (fill1 ∷ unlit ∷ fill2 ∷ unlit ∷ fill3 ∷ unlit ∷ fill4 ∷ [])) c14of6
    gives opened 1 0 0 blanks (ring6 (fill1 ∷ alone c14of6 ∷ fill2 ∷ unlit ∷ fill3 ∷ unlit ∷ fill4 ∷ []))
    -- step 1 comes first, also the long way round: 5→1 joins 1→5 counterclockwise, over four links, though place 0 is unlit
    ∷ opening (ring6 (unlit ∷ alone a15 ∷ [])) (circuit 2 5 1) gives opened 1 0 0 blanks (ring6 (unlit ∷ shared a15 (circuit 2 5 1) ∷ []))
    -- and the lower place is joined, though 5→1 could join 1→2 at place 2, the short way round
    ∷ opening (ring6 (unlit ∷ alone a15 ∷ alone (circuit 3 1 2) ∷ [])) (circuit 2 5 1)
    gives opened 1 0 0 blanks (ring6 (unlit ∷ shared a15 (circuit 2 5 1) ∷ alone (circuit 3 1 2) ∷ []))
    -- both directions are full: step 3, which knows no shorter way. 6→4 takes place 2, over four links: examples/shorter-way.script
    ∷ opening
    (ring 6 (replicate 6 1) (shared (circuit 61 1 2) (circuit 64 2 1) ∷ alone (circuit 63 5 3) ∷ alone (circuit 62 3 6) ∷ alone (circuit 65 4 5) ∷ []))
    (circuit 66 6 4)
    gives opened 2 1 1 (move 62 2 1 ∷ blank ∷ blank ∷ [])
    (ring 6 (replicate 6 1) (shared (circuit 61 1 2) (circuit 64 2 1) ∷ shared (circuit 62 3 6) (circuit 63 5 3) ∷ alone (circuit 66 6 4) ∷ alone (circuit 65 4 5) ∷ []))
    ∷ []

-- 02, E7: a roster of a ring of N nodes with the port counts ks, which counts n entries, the first with these keys and rests, and 0 in the others
abbrev roster_with : ℕ → List ℕ → ℕ → List ℕ → List ℕ → Roster
roster_with N ks n keys rests = record {
  keys = keys ++ replicate (192 - length keys) 0;
  rests = rests ++ replicate (192 - length rests) 0;
  heading = record { nodes = N; ports = ks ++ replicate (64 - length ks) 0; count = n };
}

-- a key, of a source and a number; and the rest of a circuit without a remark and without an account, of a destination and a place
abbrev key : ℕ → ℕ → ℕ
key s n = s * 4294967296 + n

abbrev rest : ℕ → ℕ → ℕ
rest d p = d * 256 + p

-- a ring of three nodes with 2, 3 and 3 ports, whose node 2 sends three circuits, placed out of order
abbrev three : List Slot → RingTable
three u = ring 3 (2 ∷ 3 ∷ 3 ∷ []) u

abbrev spread : RingTable
spread = three (shared (circuit 7 2 3) (circuit 9 3 1) ∷ unlit ∷ alone (circuit 5 2 3) ∷ alone (circuit 8 2 1) ∷ alone (circuit 6 1 2) ∷ [])

-- its roster
abbrev rows : Roster
rows = roster_with 3 (2 ∷ 3 ∷ 3 ∷ []) 5 (key 1 6 ∷ key 2 5 ∷ key 2 7 ∷ key 2 8 ∷ key 3 9 ∷ []) (rest 2 4 ∷ rest 3 2 ∷ rest 3 0 ∷ rest 1 3 ∷ rest 1 0 ∷ [])

-- rosters that no table gives, of the same ring
abbrev other_roster : ℕ → List ℕ → List ℕ → Roster
other_roster n keys rests = roster_with 3 (2 ∷ 3 ∷ 3 ∷ []) n keys rests

-- one with a row by descending number
abbrev backwards : Roster
backwards = other_roster 2 (key 2 7 ∷ key 2 5 ∷ []) (rest 3 0 ∷ rest 3 2 ∷ [])

abbrev rosters : List Case
rosters =
    -- by source node, within it by rising number, each with its place; and back
    arranging spread gives arranged_as (record { number = 0; values = [] }) [] rows
    ∷ unarranging rows gives done spread
    ∷ arranging made gives arranged_as (record { number = 0; values = [] }) [] (roster_with 5 (replicate 5 1) 0 [] [])
    -- remark and account come through
    ∷ arranging (ring3 (alone (record { number = 3; source = 1; destination = 2; remark = 258; account = 16909060 }) ∷ []))
    gives arranged_as (record { number = 0; values = [] }) [] (roster_with 3 (replicate 3 1) 1 (key 1 3 ∷ []) ((16909060 * 4294967296 + 258 * 65536 + rest 2 0) ∷ []))
    -- a table that breaks a rule: node 1 sends two circuits with one port
    ∷ arranging (ring3 (alone (circuit 1 1 2) ∷ alone (circuit 2 1 2) ∷ [])) gives arranged_as (refusal 22) [] blank_roster
    ∷ arranging blank_table gives arranged_as (refusal 22) [] blank_roster
    -- a row by descending number
    ∷ unarranging backwards gives refused 22 blank_table
    -- a row before that of a lower node
    ∷ unarranging (other_roster 2 (key 3 5 ∷ key 2 7 ∷ []) (rest 1 0 ∷ rest 3 2 ∷ [])) gives refused 22 blank_table
    -- a source that no byte holds
    ∷ unarranging (other_roster 1 (key 258 5 ∷ []) (rest 3 0 ∷ [])) gives refused 22 blank_table
    -- a number twice, in one row and in two
    ∷ unarranging (other_roster 2 (key 2 5 ∷ key 2 5 ∷ []) (rest 3 0 ∷ rest 3 2 ∷ [])) gives refused 22 blank_table
    ∷ unarranging (other_roster 2 (key 1 5 ∷ key 2 5 ∷ []) (rest 3 0 ∷ rest 3 2 ∷ [])) gives refused 22 blank_table
    -- a place of 128
    ∷ unarranging (other_roster 1 (key 2 5 ∷ []) (rest 3 128 ∷ [])) gives refused 22 blank_table
    -- something left over behind the last entry: a key, a rest
    ∷ unarranging (other_roster 1 (key 2 5 ∷ key 2 7 ∷ []) (rest 3 0 ∷ [])) gives refused 22 blank_table
    ∷ unarranging (other_roster 1 (key 2 5 ∷ []) (rest 3 0 ∷ rest 3 2 ∷ [])) gives refused 22 blank_table
    -- more entries than there is room for
    ∷ unarranging (other_roster 193 [] []) gives refused 22 blank_table
    -- three circuits at one place, and two that cannot share there
    ∷ unarranging (other_roster 3 (key 1 5 ∷ key 2 6 ∷ key 3 7 ∷ []) (rest 2 0 ∷ rest 3 0 ∷ rest 1 0 ∷ [])) gives refused 22 blank_table
    ∷ unarranging (other_roster 2 (key 1 5 ∷ key 1 6 ∷ []) (rest 2 0 ∷ rest 3 0 ∷ [])) gives refused 22 blank_table
    -- the blank one
    ∷ unarranging blank_roster gives refused 22 blank_table
    -- calls on such a roster hand it back as it came, and leave the lent list
    ∷ opening_on backwards (circuit 9 3 1) gives arranged_as (refusal 22) blanks backwards
    ∷ closing_on backwards 7 gives arranged_as (refusal 22) [] backwards
    ∷ tidying_on backwards gives arranged_as (refusal 22) (replicate 128 blank) backwards
    -- and on one that stands: 4 from 3 to 2 joins 5 at place 2 and comes before 9 in its row; 13 and 15; 6 joins 5 where that stands
    ∷ opening_on rows (circuit 4 3 2)
    gives arranged_as (record { number = 0; values = 2 ∷ 0 ∷ 0 ∷ [] }) blanks
    (other_roster 6 (key 1 6 ∷ key 2 5 ∷ key 2 7 ∷ key 2 8 ∷ key 3 4 ∷ key 3 9 ∷ []) (rest 2 4 ∷ rest 3 2 ∷ rest 3 0 ∷ rest 1 3 ∷ rest 2 2 ∷ rest 1 0 ∷ []))
    ∷ opening_on rows (circuit 4 2 1) gives arranged_as (refusal 13) blanks rows
    ∷ closing_on rows 4 gives arranged_as (refusal 15) [] rows
    ∷ closing_on rows 7
    gives arranged_as (record { number = 0; values = [] }) []
    (other_roster 4 (key 1 6 ∷ key 2 5 ∷ key 2 8 ∷ key 3 9 ∷ []) (rest 2 4 ∷ rest 3 2 ∷ rest 1 3 ∷ rest 1 0 ∷ []))
    ∷ tidying_on rows
    gives arranged_as (record { number = 0; values = 1 ∷ 1 ∷ [] }) (move 6 4 2 ∷ replicate 127 blank)
    (other_roster 5 (key 1 6 ∷ key 2 5 ∷ key 2 7 ∷ key 2 8 ∷ key 3 9 ∷ []) (rest 2 2 ∷ rest 3 2 ∷ rest 3 0 ∷ rest 1 3 ∷ rest 1 0 ∷ []))
    -- what node 2 sends, of each the number, the destination and the place; 7 among them; 6, which another node sends
    ∷ sending rows 2 gives told (record { number = 0; values = 5 ∷ 3 ∷ 2 ∷ 7 ∷ 3 ∷ 0 ∷ 8 ∷ 1 ∷ 3 ∷ [] })
    ∷ sending_numbered rows 2 7 gives told (record { number = 0; values = 7 ∷ 3 ∷ 0 ∷ [] })
    ∷ sending_numbered rows 2 6 gives told (record { number = 0; values = [] })
    -- nodes off the ring; and 22 before that
    ∷ sending rows 0 gives told (refusal 10)
    ∷ sending_numbered rows 4 7 gives told (refusal 10)
    ∷ sending backwards 4 gives told (refusal 22)
    ∷ sending_numbered backwards 4 7 gives told (refusal 22)
    ∷ []

-- eight nodes with a port each: six places
abbrev waiting : List Slot → RingTable
waiting u = ring 8 (replicate 8 1) u

-- 02, E5: the tidyings
abbrev tidyings : List Case
tidyings =
    -- a member stands in a direction they can share: the first, the second
    tidying (ring6 (alone a13 ∷ alone b34 ∷ [])) 128 gives tidied 1 (move 2 1 0 ∷ []) 128 (ring6 (shared a13 b34 ∷ []))
    ∷ tidying (ring6 (alone a15 ∷ alone b54 ∷ [])) 128 gives tidied 1 (move 1 0 1 ∷ []) 128 (ring6 (unlit ∷ shared a15 b54 ∷ []))
    -- both do: the lower place stays, also of a circuit and its return in different directions
    ∷ tidying (ring6 (alone b34 ∷ unlit ∷ alone a13 ∷ [])) 128 gives tidied 1 (move 1 2 0 ∷ []) 128 (ring6 (shared a13 b34 ∷ []))
    ∷ tidying (ring6 (unlit ∷ alone b32 ∷ alone a23 ∷ [])) 128 gives tidied 1 (move 1 2 1 ∷ []) 128 (ring6 (unlit ∷ shared a23 b32 ∷ []))
    -- neither does: both move to the lowest unlit place of that direction, lower old place first, and not to a lower one of the other
    ∷ tidying (ring6 (unlit ∷ alone b34 ∷ unlit ∷ alone a13 ∷ [])) 128
    gives tidied 1 (move 2 1 0 ∷ move 1 3 0 ∷ []) 128 (ring6 (shared a13 b34 ∷ []))
    ∷ tidying (ring6 (alone (circuit 5 2 5) ∷ unlit ∷ unlit ∷ alone (circuit 9 1 3) ∷ unlit ∷ alone (circuit 4 3 4) ∷ [])) 130
    gives tidied 1 (move 9 3 2 ∷ move 4 5 2 ∷ []) 130 (ring6 (alone (circuit 5 2 5) ∷ unlit ∷ shared (circuit 4 3 4) (circuit 9 1 3) ∷ []))
    -- a pair is passed over, for want of an unlit place, and a later one joined
    ∷ tidying (ring 5 (3 ∷ 1 ∷ 3 ∷ 1 ∷ 1 ∷ []) (alone (circuit 1 1 3) ∷ alone (circuit 2 1 2) ∷ alone (circuit 3 4 5) ∷ alone (circuit 4 2 3) ∷ alone (circuit 5 1 3) ∷ alone (circuit 6 5 4) ∷ [])) 128
    gives tidied 1 (move 6 5 2 ∷ []) 128
    (ring 5 (3 ∷ 1 ∷ 3 ∷ 1 ∷ 1 ∷ []) (alone (circuit 1 1 3) ∷ alone (circuit 2 1 2) ∷ shared (circuit 3 4 5) (circuit 6 5 4) ∷ alone (circuit 4 2 3) ∷ alone (circuit 5 1 3) ∷ []))
    -- two rounds: the second uses the place that the first has left
    ∷ tidying (ring 6 (replicate 6 1) (alone (circuit 1 1 2) ∷ alone (circuit 3 4 5) ∷ alone (circuit 2 2 3) ∷ alone (circuit 4 5 6) ∷ [])) 128
    gives tidied 2 (move 2 2 0 ∷ move 3 1 2 ∷ move 4 3 2 ∷ []) 128
    (ring 6 (replicate 6 1) (shared (circuit 1 1 2) (circuit 2 2 3) ∷ unlit ∷ shared (circuit 3 4 5) (circuit 4 5 6) ∷ []))
    -- and joins a pair that the first has passed over
    ∷ tidying (waiting (alone (circuit 1 4 8) ∷ alone (circuit 2 1 2) ∷ alone (circuit 3 5 6) ∷ alone (circuit 4 2 3) ∷ alone (circuit 5 6 7) ∷ [])) 128
    gives tidied 2 (move 5 4 2 ∷ move 2 1 4 ∷ move 4 3 4 ∷ []) 128
    (waiting (alone (circuit 1 4 8) ∷ unlit ∷ shared (circuit 3 5 6) (circuit 5 6 7) ∷ unlit ∷ shared (circuit 2 1 2) (circuit 4 2 3) ∷ []))
    -- nothing to tidy: no circuit, or none that can be joined
    ∷ tidying (ring6 []) 128 gives tidied 0 [] 128 (ring6 [])
    ∷ tidying (ring6 (shared a13 b34 ∷ unlit ∷ alone (circuit 3 4 1) ∷ [])) 128 gives tidied 0 [] 128 (ring6 (shared a13 b34 ∷ unlit ∷ alone (circuit 3 4 1) ∷ []))
    -- a list of 127 records, whatever there is to tidy; a table that breaks a rule before it
    ∷ tidying (ring6 (alone a13 ∷ alone b34 ∷ [])) 127 gives not_tidied 20 127 (ring6 (alone a13 ∷ alone b34 ∷ []))
    ∷ tidying (ring6 []) 127 gives not_tidied 20 127 (ring6 [])
    ∷ tidying blank_table 127 gives not_tidied 22 127 blank_table
    ∷ tidying (ring6 (shared b34 a13 ∷ [])) 128 gives not_tidied 22 128 (ring6 (shared b34 a13 ∷ []))
    ∷ []

-- what is asked, and what the documents say to it
abbrev pub cases : List Case
cases =
    -- two circuits, N = 5
    pair 5 (1 ⟶ 4) (4 ⟶ 2) gives shares 6 (counterclockwise ∷ [])
    ∷ pair 5 (1 ⟶ 3) (3 ⟶ 4) gives shares 3 (clockwise ∷ [])
    ∷ pair 5 (1 ⟶ 3) (3 ⟶ 5) gives shares 4 (clockwise ∷ [])
    ∷ pair 5 (2 ⟶ 3) (3 ⟶ 2) gives shares 5 (clockwise ∷ counterclockwise ∷ [])
    ∷ pair_before_e1 5 (2 ⟶ 3) (3 ⟶ 2) gives shares 5 (clockwise ∷ [])
    ∷ pair 5 (1 ⟶ 3) (2 ⟶ 3) gives not_adjacent
    -- K and W
    ∷ ports (1 ∷ 1 ∷ 1 ∷ 1 ∷ 1 ∷ []) gives dimensions 5 2
    ∷ ports (2 ∷ 1 ∷ 1 ∷ 1 ∷ 1 ∷ []) gives dimensions 6 2
    ∷ ports (2 ∷ 1 ∷ 2 ∷ 1 ∷ 1 ∷ []) gives dimensions 7 3
    ∷ ports (0 ∷ 0 ∷ 0 ∷ 0 ∷ 0 ∷ []) gives dimensions 0 0
    -- circuit 11 alone
    ∷ saving opened11 gives saved 29 2
    -- N from 3 to 64
    ∷ making 2 (replicate 2 1) gives refused 1 blank_table
    ∷ making 3 (replicate 3 1) gives done (ring 3 (replicate 3 1) [])
    ∷ making 64 (replicate 64 1) gives done (ring 64 (replicate 64 1) [])
    ∷ making 65 (replicate 65 1) gives refused 1 blank_table
    -- K at most 192
    ∷ making 4 (64 ∷ 64 ∷ 64 ∷ 0 ∷ []) gives done (ring 4 (64 ∷ 64 ∷ 64 ∷ 0 ∷ []) [])
    ∷ making 4 (64 ∷ 64 ∷ 64 ∷ 1 ∷ []) gives refused 3 blank_table
    -- the script
    ∷ making 5 (1 ∷ 1 ∷ 1 ∷ 1 ∷ 1 ∷ []) gives done made
    ∷ opening made c11 gives opened 1 0 0 blanks opened11
    ∷ opening opened11 c12 gives opened 0 0 0 blanks opened12
    ∷ opening opened12 c13 gives opened 1 0 0 blanks opened13
    ∷ opening opened13 c14 gives opened 0 0 0 blanks opened14
    ∷ opening opened14 c15 gives opened 3 0 0 blanks opened15
    ∷ opening opened15 (circuit 16 1 2) gives not_opened 13 blanks opened15
    ∷ closing opened15 13 gives done closed13
    ∷ opening closed13 c16 gives opened 1 0 0 blanks opened16
    -- the opening of 15: 3b with three moves
    ∷ opening before15 c15 gives opened 2 3 2 (move 12 1 0 ∷ move 11 0 1 ∷ move 13 2 1 ∷ []) (ring5 (alone c12 ∷ shared c11 c13 ∷ alone c15 ∷ alone c14 ∷ []))
    -- 3b with two moves, past a shared place: examples/two-moves.script
    ∷ opening
    (ring 6 (replicate 6 1) (shared (circuit 21 1 2) (circuit 22 2 3) ∷ alone (circuit 24 5 1) ∷ alone (circuit 23 3 6) ∷ alone (circuit 25 6 4) ∷ []))
    (circuit 26 4 5)
    gives opened 2 2 3 (move 23 2 1 ∷ move 24 1 2 ∷ blank ∷ [])
    (ring 6 (replicate 6 1) (shared (circuit 21 1 2) (circuit 22 2 3) ∷ alone (circuit 23 3 6) ∷ shared (circuit 24 5 1) (circuit 26 4 5) ∷ alone (circuit 25 6 4) ∷ []))
    -- 3a: examples/one-move.script
    ∷ opening
    (ring 6 (replicate 6 1) (alone (circuit 21 1 4) ∷ alone (circuit 23 6 5) ∷ alone (circuit 22 3 6) ∷ alone (circuit 24 2 1) ∷ []))
    (circuit 25 4 3)
    gives opened 0 1 3 (move 21 0 3 ∷ blank ∷ blank ∷ [])
    (ring 6 (replicate 6 1) (alone (circuit 25 4 3) ∷ alone (circuit 23 6 5) ∷ alone (circuit 22 3 6) ∷ shared (circuit 21 1 4) (circuit 24 2 1) ∷ []))
    -- 3a with a circuit and its return: the lower place stays
    ∷ opening returns (circuit 57 2 3)
    gives opened 2 1 1 (move 53 2 1 ∷ blank ∷ blank ∷ [])
    (ring4 (shared (circuit 51 4 1) (circuit 52 3 4) ∷ shared (circuit 53 1 3) (circuit 55 3 1) ∷ alone (circuit 57 2 3) ∷ alone (circuit 56 1 2) ∷ []))
    -- the field maps of one circuit
    ∷ (0 ∷ n1) readAs (alone (first 0 0) ∷ [])
    ∷ (1 ∷ n1 ++ r1) readAs (alone (first 258 0) ∷ [])
    ∷ (8 ∷ n1 ++ a1) readAs (alone (first 0 16909060) ∷ [])
    ∷ (9 ∷ n1 ++ r1 ++ a1) readAs (alone (first 258 16909060) ∷ [])
    -- and of two
    ∷ (2 ∷ n1 ++ n2) readAs (shared (first 0 0) (second 0 0) ∷ [])
    ∷ (3 ∷ n1 ++ r1 ++ n2) readAs (shared (first 258 0) (second 0 0) ∷ [])
    ∷ (6 ∷ n1 ++ n2 ++ r2) readAs (shared (first 0 0) (second 513 0) ∷ [])
    ∷ (7 ∷ n1 ++ r1 ++ n2 ++ r2) readAs (shared (first 258 0) (second 513 0) ∷ [])
    ∷ (10 ∷ n1 ++ a1 ++ n2) readAs (shared (first 0 16909060) (second 0 0) ∷ [])
    ∷ (11 ∷ n1 ++ r1 ++ a1 ++ n2) readAs (shared (first 258 16909060) (second 0 0) ∷ [])
    ∷ (14 ∷ n1 ++ a1 ++ n2 ++ r2) readAs (shared (first 0 16909060) (second 513 0) ∷ [])
    ∷ (15 ∷ n1 ++ r1 ++ a1 ++ n2 ++ r2) readAs (shared (first 258 16909060) (second 513 0) ∷ [])
    ∷ (18 ∷ n1 ++ n2 ++ a2) readAs (shared (first 0 0) (second 0 67305985) ∷ [])
    ∷ (19 ∷ n1 ++ r1 ++ n2 ++ a2) readAs (shared (first 258 0) (second 0 67305985) ∷ [])
    ∷ (22 ∷ n1 ++ n2 ++ r2 ++ a2) readAs (shared (first 0 0) (second 513 67305985) ∷ [])
    ∷ (23 ∷ n1 ++ r1 ++ n2 ++ r2 ++ a2) readAs (shared (first 258 0) (second 513 67305985) ∷ [])
    ∷ (26 ∷ n1 ++ a1 ++ n2 ++ a2) readAs (shared (first 0 16909060) (second 0 67305985) ∷ [])
    ∷ (27 ∷ n1 ++ r1 ++ a1 ++ n2 ++ a2) readAs (shared (first 258 16909060) (second 0 67305985) ∷ [])
    ∷ (30 ∷ n1 ++ a1 ++ n2 ++ r2 ++ a2) readAs (shared (first 0 16909060) (second 513 67305985) ∷ [])
    ∷ (31 ∷ n1 ++ r1 ++ a1 ++ n2 ++ r2 ++ a2) readAs (shared (first 258 16909060) (second 513 67305985) ∷ [])
    -- a written account of 0, as soon as its four bytes are there; cut short before
    ∷ (8 ∷ n1 ++ 0 ∷ 0 ∷ 0 ∷ 0 ∷ []) refusedBy 31
    ∷ (8 ∷ n1 ++ 0 ∷ 0 ∷ 0 ∷ []) refusedBy 30
    ∷ (10 ∷ n1 ++ 0 ∷ 0 ∷ 0 ∷ 0 ∷ []) refusedBy 31
    ∷ (26 ∷ n1 ++ a1 ++ n2 ++ 0 ∷ 0 ∷ 0 ∷ 0 ∷ []) refusedBy 31
    ∷ (26 ∷ n1 ++ a1 ++ n2) refusedBy 30
    -- the longest form
    ∷ saving full_ring gives saved 2513 255
    ∷ reading (form_of full_ring) gives done full_ring
    -- bit 2 or bit 4 without bit 1, and bits 5 to 7, with every field after them and with none
    ∷ map (λ m. (m ∷ n1 ++ r1 ++ a1 ++ n2 ++ r2 ++ a2) refusedBy 31) bad_maps
    ++ map (λ m. (m ∷ []) refusedBy 31) bad_maps
    ++ frequencies ++ loads ++ tidyings ++ shorter_ways ++ rosters
