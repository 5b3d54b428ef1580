-- 02, E7: "every call on the new one gives what the old one gives" and "Saved forms don't change by a byte": reading, writing and the load
-- report of a roster are those of the table that it is of; 22 where it does not stand. Assumes nothing. What these calls promise.
use Rattle.std.specs.Prelude.{ℕ, ◌*◌, not, List, [], ◌∷◌, ltb, length, Result, Err}
use Rattle.basis.specs.Choice.{pick}
use Rattle.refusals.specs.Answer.{Reason, ◌when◌}
use Rattle.refusals.specs.declared.Refusal.{Refusal}
use Rattle.refusals.specs.Refusal.{Verdict}
use Rattle.refusals.specs.declared.Refusal.TheVariants.{BrokenRule}
use Rattle.roster.specs.Roster.{table_of, stands, built_by}
use Rattle.roster.specs.declared.Roster.{Roster}
use Rattle.roster.specs.declared.Built.{Built}
use Rattle.form.specs.Form.{form_of}
use Rattle.form.specs.Reading.{read_of}
use Rattle.load.specs.Report.{report_of, buffer_after}
use Rattle.encode.specs.Answer.{written_of, bytes_after}

-- reading: the roster of the table read; a refused form gives the blank roster
abbrev pub read_roster : List ℕ → Built
read_roster s = built_by (read_of s).table (read_of s).verdict

-- writing, with n lent bytes; and what it leaves of them
unfoldable pub write_roster : Roster → ℕ → Result ℕ Refusal
write_roster r n = pick (stands r) (written_of (table_of r) n) (Err BrokenRule)

unfoldable pub write_roster_bytes : Roster → List ℕ → List ℕ
write_roster_bytes r l = pick (stands r) (bytes_after (table_of r) l) l

-- the load report, with a lent buffer of n bytes; and what it leaves there
unfoldable pub report_roster : Roster → ℕ → Verdict
report_roster r n = pick (stands r) (report_of (table_of r) n) (Err BrokenRule)

unfoldable pub report_roster_bytes : Roster → List ℕ → List ℕ
report_roster_bytes r l = pick (stands r) (buffer_after (table_of r) l) l

-- the reasons of each refusal by number: 22, then that of the old call
abbrev pub write_roster_reasons : Roster → ℕ → List Reason
write_roster_reasons r n = (22 when not (stands r)) ∷ (21 when ltb n (length (form_of (table_of r)))) ∷ []

abbrev pub report_roster_reasons : Roster → ℕ → List Reason
report_roster_reasons r n = (22 when not (stands r)) ∷ (21 when ltb n (2 * (table_of r).nodes)) ∷ []
