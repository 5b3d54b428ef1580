-- Cases by kind: what is asked, and what the definitions answer. Assumes nothing.
-- What is asked and answered in 01's and 02's cases, for a reader to check beside them.
use Rattle.std.specs.Prelude.{ℕ, ◌+◌, ◌-◌, ◌≡◌, List, [], ◌∷◌, ◌++◌, length, get_or, replicate}
use Rattle.basis.specs.Choice.{pick}
use Rattle.basis.specs.Count.{total}
use Rattle.lightpath.specs.declared.Direction.{Direction}
use Rattle.lightpath.specs.declared.Direction.TheVariants.{Clockwise as clockwise, Counterclockwise as counterclockwise}
use Rattle.lightpath.specs.declared.Circuit.{Circuit}
use Rattle.lightpath.specs.Circuit.{next, hops, adjacent, can_share}
use Rattle.lightpath.specs.BeforeE1.{can_share_before_e1}
use Rattle.moves.specs.declared.Move.{Move}
use Rattle.moves.specs.Records.{blank}
use Rattle.moves.specs.Lent.{blanks}
use Rattle.ports.specs.Ports.{wavelengths}
use Rattle.refusals.specs.Answer.{Answer as Reply, refusal, verdict_answer}
use Rattle.grid.specs.declared.GridPlan.{GridPlan}
use Rattle.grid.specs.Tuning.{tuned_of, tuned_answer, carried_of, carried_answer}
use Rattle.rules.specs.Rules.{Sharing}
use Rattle.ring.specs.declared.RingTable.{RingTable}
use Rattle.ring.specs.Making.{make_of}
use Rattle.ring.specs.Opening.{open_of, lent_after}
use Rattle.ring.specs.Closing.{close_of}
use Rattle.ring.specs.Tidying.{tidy_of, tidy_lent_after}
use Rattle.ring.specs.Answer.{opening_answer, tidying_answer}
use Rattle.roster.specs.declared.Roster.{Roster}
use Rattle.roster.specs.Roster.{built_of, table_built}
use Rattle.roster_calls.specs.Calls.{open_roster, open_roster_lent, close_roster, tidy_roster, tidy_roster_lent}
use Rattle.roster_rows.specs.Lookups.{row_of_roster, row_answer, circuit_of_roster, lookup_answer}
use Rattle.form.specs.Form.{form_of}
use Rattle.form.specs.Reading.{read_of}
use Rattle.load.specs.Load.{link_load}
use Rattle.load.specs.NextLink.{grows, falls}
use Rattle.load.specs.Report.{report_of, buffer_after}

-- what a case asks
pub data Question : Type 0 where
  -- two circuits on a ring of N nodes
  pair : ℕ → Circuit → Circuit → Question
  -- the same before E1
  pair_before_e1 : ℕ → Circuit → Circuit → Question
  -- port counts
  ports : List ℕ → Question
  -- a ring of N nodes made with some port counts
  making : ℕ → List ℕ → Question
  -- a circuit opened on a table, three blank records lent
  opening : RingTable → Circuit → Question
  -- a circuit closed by its number
  closing : RingTable → ℕ → Question
  -- a table tidied, so many blank records lent
  tidying : RingTable → ℕ → Question
  -- a table saved
  saving : RingTable → Question
  -- a form read
  reading : List ℕ → Question
  -- a wavelength of a plan of frequencies
  tuning : GridPlan → ℕ → Question
  -- a frequency, by such a plan
  tracing : GridPlan → ℕ → Question
  -- the load report of a table, into so many bytes of 99
  reporting : RingTable → ℕ → Question
  -- from a link to the next clockwise, in a direction
  stepping : RingTable → Direction → ℕ → Question
  -- the roster built from a table
  arranging : RingTable → Question
  -- the table built from a roster
  unarranging : Roster → Question
  -- a circuit opened on a roster, three blank records lent; one closed by its number; a roster tidied, 128 lent
  opening_on : Roster → Circuit → Question
  closing_on : Roster → ℕ → Question
  tidying_on : Roster → Question
  -- the circuits that a node sends, asked of a roster; and the one of a number among them
  sending : Roster → ℕ → Question
  sending_numbered : Roster → ℕ → ℕ → Question

-- what it expects
pub data Answer : Type 0 where
  -- the total of the hops of an adjacent pair, and the directions in which it can share
  shares : ℕ → List Direction → Answer
  not_adjacent : Answer
  -- K and W
  dimensions : ℕ → ℕ → Answer
  -- the number and values of a making, an opening, a closing, a tidying or a reading, with the lent list, if there is one, and the table
  -- after it
  replied : Reply → List Move → RingTable → Answer
  -- the length of a form, and byte 0 of its map
  saved : ℕ → ℕ → Answer
  -- the number and values of a frequency, of a wavelength or of a lookup by node
  told : Reply → Answer
  -- the number of a report, and the bytes after it
  reported : Reply → List ℕ → Answer
  -- the next link; the load, what it grows and falls by at the node between, and the load there
  stepped : ℕ → ℕ → ℕ → ℕ → ℕ → Answer
  -- the number and values of a building or of a call on a roster, with the lent list, if there is one, and the roster after it
  arranged_as : Reply → List Move → Roster → Answer

-- the table after a making, a closing or a reading
abbrev pub done : RingTable → Answer
done t = replied (record { number = 0; values = [] }) [] t

-- the number that refuses one, and the table after it
abbrev pub refused : ℕ → RingTable → Answer
refused n t = replied (refusal n) [] t

-- place, moves and looks of an opening, with the lent list and the table after it
abbrev pub opened : ℕ → ℕ → ℕ → List Move → RingTable → Answer
opened p k looks lent t = replied (record { number = 0; values = p ∷ k ∷ looks ∷ [] }) lent t

-- the number that refuses one, with the same
abbrev pub not_opened : ℕ → List Move → RingTable → Answer
not_opened n lent t = replied (refusal n) lent t

-- rounds of a tidying, the records written to a list of so many, the others blank, and the table after it
abbrev pub tidied : ℕ → List Move → ℕ → RingTable → Answer
tidied rounds ms n t = replied (record { number = 0; values = rounds ∷ length ms ∷ [] }) (ms ++ replicate (n - length ms) blank) t

-- the number that refuses one, with such a list
abbrev pub not_tidied : ℕ → ℕ → RingTable → Answer
not_tidied r n t = replied (refusal r) (replicate n blank) t

-- a question and the answer to it
pub record Case : Type 0 where
  pub asked : Question
  pub expected : Answer

infix 70 ◌gives◌
-- asked q, the answer is to be a
abbrev pub ◌gives◌ : Question → Answer → Case
q gives a = record { asked = q; expected = a }

-- the directions in which two circuits can share, by a rule for it
abbrev pub directions : Sharing → ℕ → Circuit → Circuit → List Direction
directions can N a b =
    pick (can N clockwise a b) (clockwise ∷ []) []
    ++ pick (can N counterclockwise a b) (counterclockwise ∷ []) []

-- the total of their hops, and these
abbrev pub sharing : Sharing → ℕ → Circuit → Circuit → Answer
sharing can N a b = pick (adjacent a b) (shares (hops N a + hops N b) (directions can N a b)) not_adjacent

-- the map of a form stands after N and the ports
abbrev pub map_start : RingTable → ℕ
map_start t = 1 + t.nodes

-- what the definitions answer
abbrev pub answer_to : Question → Answer
answer_to (pair N a b) = sharing can_share N a b
answer_to (pair_before_e1 N a b) = sharing can_share_before_e1 N a b
answer_to (ports ks) = dimensions (total ks) (wavelengths ks)
answer_to (making N ks) = replied (verdict_answer (make_of N ks).verdict) [] (make_of N ks).table
answer_to (opening t c) = replied (opening_answer (open_of t c blanks).answer) (lent_after t c blanks) (open_of t c blanks).table
answer_to (closing t n) = replied (verdict_answer (close_of t n).verdict) [] (close_of t n).table
answer_to (tidying t n) =
    let lent = replicate n blank in replied (tidying_answer (tidy_of t lent).answer) (tidy_lent_after t lent) (tidy_of t lent).table
answer_to (reading s) = replied (verdict_answer (read_of s).verdict) [] (read_of s).table
answer_to (tuning p w) = told (tuned_answer (tuned_of p w))
answer_to (tracing p f) = told (carried_answer (carried_of p f))
answer_to (reporting t n) = reported (verdict_answer (report_of t n)) (buffer_after t (replicate n 99))
answer_to (stepping t d l) =
    let m = next t.nodes l in
    stepped m (link_load t.nodes t.channels d l) (grows t.channels d m) (falls t.channels d m) (link_load t.nodes t.channels d m)
answer_to (arranging t) = arranged_as (verdict_answer (built_of t).verdict) [] (built_of t).roster
answer_to (unarranging r) = replied (verdict_answer (table_built r).verdict) [] (table_built r).table
answer_to (opening_on r c) = arranged_as (opening_answer (open_roster r c blanks).answer) (open_roster_lent r c blanks) (open_roster r c blanks).roster
answer_to (closing_on r n) = arranged_as (verdict_answer (close_roster r n).verdict) [] (close_roster r n).roster
answer_to (tidying_on r) =
    let lent = replicate 128 blank in arranged_as (tidying_answer (tidy_roster r lent).answer) (tidy_roster_lent r lent) (tidy_roster r lent).roster
answer_to (sending r i) = told (row_answer (row_of_roster r i))
answer_to (sending_numbered r i n) = told (lookup_answer (circuit_of_roster r i n))
answer_to (saving t) = saved (length (form_of t)) (get_or (form_of t) (map_start t) 0)

-- a case holds when that is what it expects
abbrev pub Holds : Case → Type 0
Holds c = answer_to c.asked ≡ c.expected
