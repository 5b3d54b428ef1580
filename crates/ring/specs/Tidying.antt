-- 02, E5: tidying a ring table, the causes of a refusal in their order, and the answer. Assumes nothing.
-- What `RingTable::tidy`, `decide_tidy` and `decide_tidy_valid` promise.
use Rattle.std.specs.Prelude.{ℕ, not, List, [], ◌∷◌, ltb, length, Result, Ok, Err}
use Rattle.limits.specs.Limits.{tidy_records}
use Rattle.moves.specs.MoveList.{list_of, written_all}
use Rattle.moves.specs.declared.Move.{Move}
use Rattle.ports.specs.Ports.{limit_of}
use Rattle.tidying.specs.Tidying as T
use Rattle.refusals.specs.Refusal.{Cause, ◌if◌, judged, Verdict}
use Rattle.refusals.specs.declared.Refusal.{Refusal}
use Rattle.refusals.specs.declared.Refusal.TheVariants.{ShortList, BrokenRule}
use Rattle.ring.specs.Table.{RingTable, meets_rules, with_channels}
pub use Rattle.ring.specs.declared.TidyCounts.{TidyCounts}
pub use Rattle.ring.specs.declared.Tidied.{Tidied}
pub use Rattle.ring.specs.declared.TidyDecision.{TidyDecision}

-- "the number of rounds and of moves", or a refusal
abbrev pub Tidying : Type 0
Tidying = Result TidyCounts Refusal

-- "the lent list needs 128 records, else 20, which follows 22"
abbrev pub tidy_causes : RingTable → ℕ → List Cause
tidy_causes t n = (BrokenRule if not (meets_rules t)) ∷ (ShortList if ltb n tidy_records) ∷ []

-- the rounds of a table
abbrev pub rounds_of : RingTable → T.Tidying
rounds_of t = T.tidy_up t.nodes (limit_of t.ports) t.channels

-- the rounds carried out: the table after them, their number and that of the moves; and the moves
abbrev pub tidying_by : RingTable → Verdict → TidyDecision
tidying_by t (Ok _) = record {
  tidied = record { table = with_channels t (rounds_of t).places; answer = Ok (record { rounds = (rounds_of t).rounds; moves = length (rounds_of t).moves }) };
  moves = list_of (rounds_of t).moves;
}
tidying_by t (Err r) = record { tidied = record { table = t; answer = Err r }; moves = list_of [] }

-- a tidying with a lent list of n records: 22, 20, else the rounds
unfoldable pub decide_tidy_of : RingTable → ℕ → TidyDecision
decide_tidy_of t n = tidying_by t (judged (tidy_causes t n))

-- the table goes in whole and comes back whole with the answer; and the lent list afterwards
abbrev pub tidy_of : RingTable → List Move → Tidied
tidy_of t lent = (decide_tidy_of t (length lent)).tidied

abbrev pub tidy_lent_after : RingTable → List Move → List Move
tidy_lent_after t lent = written_all lent (decide_tidy_of t (length lent)).moves
