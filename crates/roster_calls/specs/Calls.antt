-- 02, E7: "every call on the new one gives what the old one gives": each is the old call on the table that the roster is of, with the table
-- after it arranged. "An arrangement that no old table gives is met by 22", and comes back as it was. Assumes nothing. What the calls promise.
use Rattle.std.specs.Prelude.{ℕ, not, List, [], ◌∷◌, ltb, length, Err}
use Rattle.basis.specs.Choice.{pick}
use Rattle.lightpath.specs.declared.Circuit.{Circuit}
use Rattle.channels.specs.Channels.{live}
use Rattle.moves.specs.Records.{none}
use Rattle.moves.specs.MoveList.{list_of}
use Rattle.moves.specs.declared.Move.{Move}
use Rattle.refusals.specs.Answer.{Reason, ◌when◌}
use Rattle.refusals.specs.declared.Refusal.TheVariants.{BrokenRule}
use Rattle.ring.specs.Making.{make_of}
use Rattle.ring.specs.Opening.{decide_of, lent_after}
use Rattle.ring.specs.Closing.{close_of}
use Rattle.ring.specs.Tidying.{decide_tidy_of, tidy_lent_after}
use Rattle.ring.specs.Demand3.{reasons}
use Rattle.ring.specs.declared.Answered.{Answered}
use Rattle.ring.specs.declared.Decision.{Decision}
use Rattle.ring.specs.declared.Opened as R
use Rattle.ring.specs.declared.TidyDecision.{TidyDecision}
use Rattle.ring.specs.declared.Tidied as T
use Rattle.roster.specs.Roster.{arranged, table_of, stands, built_by}
use Rattle.roster.specs.declared.Roster.{Roster}
use Rattle.roster.specs.declared.Built.{Built}
pub use Rattle.roster_calls.specs.declared.Opened.{Opened}
pub use Rattle.roster_calls.specs.declared.Decided.{Decided}
pub use Rattle.roster_calls.specs.declared.Tidied.{Tidied}
pub use Rattle.roster_calls.specs.declared.TidyDecided.{TidyDecided}

-- making: the roster of the table made; a refused making hands back the blank roster
abbrev pub make_roster : ℕ → List ℕ → Built
make_roster N ks = built_by (make_of N ks).table (make_of N ks).verdict

-- what an old call gives, with its table arranged
abbrev pub decision_arranged : Decision → Decided
decision_arranged d = record { opened = record { roster = arranged d.opened.table; answer = d.opened.answer }; moves = d.moves }

abbrev pub answered_arranged : Answered → Built
answered_arranged a = record { roster = arranged a.table; verdict = a.verdict }

abbrev pub tidying_arranged : TidyDecision → TidyDecided
tidying_arranged d = record { tidied = record { roster = arranged d.tidied.table; answer = d.tidied.answer }; moves = d.moves }

-- an opening with a lent list of n records
abbrev pub decide_roster : Roster → Circuit → ℕ → Decided
decide_roster r c n =
    pick (stands r) (decision_arranged (decide_of (table_of r) c n)) (record { opened = record { roster = r; answer = Err BrokenRule }; moves = none })

-- a closing
abbrev pub close_roster : Roster → ℕ → Built
close_roster r n = pick (stands r) (answered_arranged (close_of (table_of r) n)) (record { roster = r; verdict = Err BrokenRule })

-- a tidying with a lent list of n records
abbrev pub decide_tidy_roster : Roster → ℕ → TidyDecided
decide_tidy_roster r n =
    pick (stands r) (tidying_arranged (decide_tidy_of (table_of r) n)) (record { tidied = record { roster = r; answer = Err BrokenRule }; moves = list_of [] })

-- and both with the list itself, which is afterwards as the old call leaves it
abbrev pub open_roster : Roster → Circuit → List Move → Opened
open_roster r c lent = (decide_roster r c (length lent)).opened

abbrev pub open_roster_lent : Roster → Circuit → List Move → List Move
open_roster_lent r c lent = pick (stands r) (lent_after (table_of r) c lent) lent

abbrev pub tidy_roster : Roster → List Move → Tidied
tidy_roster r lent = (decide_tidy_roster r (length lent)).tidied

abbrev pub tidy_roster_lent : Roster → List Move → List Move
tidy_roster_lent r lent = pick (stands r) (tidy_lent_after (table_of r) lent) lent

-- the reasons of each refusal by number: 22, then those of the old call
abbrev pub open_roster_reasons : Roster → Circuit → ℕ → List Reason
open_roster_reasons r c n = (22 when not (stands r)) ∷ reasons (table_of r) c n

abbrev pub close_roster_reasons : Roster → ℕ → List Reason
close_roster_reasons r n = (22 when not (stands r)) ∷ (15 when not (live (table_of r).channels n)) ∷ []

abbrev pub tidy_roster_reasons : Roster → ℕ → List Reason
tidy_roster_reasons r n = (22 when not (stands r)) ∷ (20 when ltb n 128) ∷ []

-- the old arrangement of what a call gives
abbrev pub opened_table : Opened → R.Opened
opened_table o = record { table = table_of o.roster; answer = o.answer }

abbrev pub tidied_table : Tidied → T.Tidied
tidied_table o = record { table = table_of o.roster; answer = o.answer }
