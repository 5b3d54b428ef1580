-- Every case of the table holds: its answers are computed at once, and one law takes that to each case. Assumes nothing.
use mathlib.Core.Path.{◌≡◌, refl}
use mathlib.Core.List.{List, [], ◌∷◌, map}
use Rattle.basis.specs.Count.{All}
use Rattle.lightpath.specs.Circuit.{ahead, users}
use Rattle.lit_words.specs.Lit.{bit_of, word, none_lit_from}
use Rattle.moves.specs.Lent.{fronted}
use Rattle.steps.specs.Steps.{unlit_place, plan_of}
use Rattle.tidying.specs.Tidying.{tidy_within}
use Rattle.ring.specs.Making.{make_of}
use Rattle.ring.specs.Opening.{decide_of}
use Rattle.ring.specs.Closing.{close_of}
use Rattle.ring.specs.Tidying.{decide_tidy_of}
use Rattle.entries.specs.Entry.{key_of, rest_of, entry_of}
use Rattle.roster.specs.Roster.{entries, arranged, table_of, stands, built_of, table_built}
use Rattle.roster_rows.specs.Lookups.{row_of_roster, circuit_of_roster}
use Rattle.form.specs.Bytes.{high_first, number_from}
use Rattle.form.specs.Form.{map_bytes, field_map, optional_bytes, circuit_bytes, record_bytes, records_bytes, form_of}
use Rattle.form.specs.Reading.{read_ports, map_bit, read_map_by, read_optional, read_circuit, map_holds, read_second, read_record_by, read_place_by, read_records_by, checked_by, read_table, read_of}
use Rattle.load.specs.Load.{lightpaths_below, loads_to}
use Rattle.load.specs.Report.{report_of}
use Rattle.grid.specs.Grid.{frequency_at, wavelength_at}
use Rattle.grid.specs.Tuning.{tuned_of, carried_of}
use Rattle.cases.specs.Case.{Case, answer_to, Holds}
use Rattle.cases.specs.Table.{cases}

-- where the answers to a list of cases are those expected, each case holds
each : (cs : List Case) → map (λ c. answer_to c.asked) cs ≡ map (λ c. c.expected) cs → All Holds cs
each [] e = tt
each (c ∷ cs) e = ((cc), each cs (cc))

-- the answers to the table's, computed
computed : map (λ c. answer_to c.asked) cases ≡ map (λ c. c.expected) cases
unfolding ahead word none_lit_from make_of decide_of close_of decide_tidy_of tidy_within unlit_place plan_of form_of map_bytes records_bytes record_bytes field_map circuit_bytes high_first optional_bytes bit_of number_from read_of read_table read_records_by read_place_by read_second map_holds read_circuit read_optional map_bit read_ports tuned_of carried_of frequency_at wavelength_at users lightpaths_below loads_to report_of key_of rest_of entry_of entries arranged table_of stands built_of table_built row_of_roster circuit_of_roster fronted checked_by read_record_by read_map_by
computed = refl

-- 01: "Cases marked P are proved in a table with one theorem for all": the cases of 01 and 02
pub cases_hold : All Holds cases
cases_hold = each cases computed
