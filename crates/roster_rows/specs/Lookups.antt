-- 02, E7: "Lookups by node should be short." What a host asks of a roster by node: the circuits that the node sends, and one of them by its
-- number. Assumes nothing. What `row` and `circuit_of` promise, and those of a roster that is known to stand.
use Rattle.std.specs.Prelude.{ℕ, ◌-◌, not, List, [], ◌∷◌, ◌++◌, eqb, length, take, replicate, Option, Some, None, Result, Ok, Err}
use Rattle.basis.specs.Choice.{pick}
use Rattle.limits.specs.Limits.{most_ports}
use Rattle.lightpath.specs.Circuit.{on_ring, blank_circuit}
use Rattle.channels.specs.declared.Standing.{Standing}
use Rattle.refusals.specs.Refusal.{number_of, Verdict}
use Rattle.refusals.specs.Answer.{Answer, refusal, done, verdict_answer, Reason, ◌when◌}
use Rattle.refusals.specs.declared.Refusal.{Refusal}
use Rattle.refusals.specs.declared.Refusal.TheVariants.{OffRing, BrokenRule}
use Rattle.roster.specs.Roster.{entries, table_of, stands}
use Rattle.roster.specs.declared.Roster.{Roster}
use Rattle.rows.specs.Row.{row_of}
pub use Rattle.roster_rows.specs.declared.Sent.{Sent}

-- the circuits that a node sends, of the table that the roster is of: "by rising number", each with its place
abbrev pub sent_by : Roster → ℕ → List Standing
sent_by r node = row_of node (entries (table_of r).channels)

-- some circuits in the room of a row; those after them are blank, all zeros
abbrev pub in_room : List Standing → List Standing
in_room ms = ms ++ replicate (most_ports - length ms) (record { place = 0; circuit = blank_circuit })

abbrev pub sent_of : List Standing → Verdict → Sent
sent_of ms v = record { list = in_room ms; count = length ms; verdict = v }

-- "An arrangement that no old table gives is met by 22"; then "a node off the ring", by 10; and where neither is there, the answer
abbrev pub looked : {A : Type 0} → Roster → ℕ → (Refusal → A) → A → A
looked r node refuse answer = pick (stands r) (pick (on_ring (table_of r).nodes node) answer (refuse OffRing)) (refuse BrokenRule)

-- the row of a node; that of a refused lookup is blank
unfoldable pub row_of_roster : Roster → ℕ → Sent
row_of_roster r node = looked r node (λ x. sent_of [] (Err x)) (sent_of (sent_by r node) (Ok tt))

-- of some circuits the one of a number, or that there is none
abbrev pub numbered : ℕ → List Standing → Option Standing
numbered n [] = None
numbered n (m ∷ ms) = pick (eqb m.circuit.number n) (Some m) (numbered n ms)

-- the circuit of a number in the row of a node
unfoldable pub circuit_of_roster : Roster → ℕ → ℕ → Result (Option Standing) Refusal
circuit_of_roster r node n = looked r node (λ x. Err x) (Ok (numbered n (sent_by r node)))

-- the reasons of a refusal by number
abbrev pub lookup_reasons : Roster → ℕ → List Reason
lookup_reasons r node = (22 when not (stands r)) ∷ (10 when not (on_ring (table_of r).nodes node)) ∷ []

-- the answers in numbers and values: of each circuit "circuit NUMBER to DESTINATION place PLACE"
abbrev pub circuit_values : List Standing → List ℕ
circuit_values [] = []
circuit_values (m ∷ ms) = m.circuit.number ∷ m.circuit.destination ∷ m.place ∷ circuit_values ms

abbrev pub row_answer : Sent → Answer
row_answer s = record { number = (verdict_answer s.verdict).number; values = circuit_values (take s.count s.list) }

abbrev pub lookup_answer : Result (Option Standing) Refusal → Answer
lookup_answer (Ok (Some m)) = done (circuit_values (m ∷ []))
lookup_answer (Ok None) = done []
lookup_answer (Err x) = refusal (number_of x)
