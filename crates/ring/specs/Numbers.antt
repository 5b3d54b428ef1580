-- 01, "By whom it can be caused" and "Order": the reasons of each call's refusal, as 01 numbers and orders them, and the values that it
-- answers where there is none. Assumes nothing. What `make`, `open`, `decide`, `close`, `tidy`, `decide_tidy` and those of a table known to
-- meet the rules promise.
use Rattle.std.specs.Prelude.{ℕ, ◌||◌, not, List, [], ◌∷◌, eqb, ltb, length}
use Rattle.basis.specs.Count.{total}
use Rattle.limits.specs.Limits.{least_nodes, most_nodes, most_ports, most_total}
use Rattle.lightpath.specs.declared.Circuit.{Circuit}
use Rattle.channels.specs.Channels.{live}
use Rattle.ports.specs.Ports.{each_at_most, limit_of}
use Rattle.steps.specs.Steps.{plan_of}
use Rattle.refusals.specs.Answer.{Reason, ◌when◌}
use Rattle.ring.specs.Table.{RingTable, meets_rules}
use Rattle.ring.specs.Demand3.{reasons}
use Rattle.ring.specs.Tidying.{rounds_of}

-- making: "N outside 3 to 64, or a port list not N long"; "some k_i above 64"; "K above 192"
abbrev pub make_reasons : ℕ → List ℕ → List Reason
make_reasons N ks =
    (1 when (ltb N least_nodes || ltb most_nodes N || not (eqb (length ks) N)))
    ∷ (2 when not (each_at_most most_ports ks))
    ∷ (3 when ltb most_total (total ks))
    ∷ []

-- closing: "the table breaks a ring rule"; "number to close isn't live"
abbrev pub close_reasons : RingTable → ℕ → List Reason
close_reasons t n = (22 when not (meets_rules t)) ∷ (15 when not (live t.channels n)) ∷ []

-- opening, with a lent list of n records: "the table breaks a ring rule"; then 20, 10, 11, 12, 13, 14
abbrev pub open_reasons : RingTable → Circuit → ℕ → List Reason
open_reasons t c n = (22 when not (meets_rules t)) ∷ reasons t c n

-- "place taken, number of moves, looks", as the steps have them
abbrev pub open_values : RingTable → Circuit → List ℕ
open_values t c = let plan = plan_of t.nodes (limit_of t.ports) t.channels c in plan.taken ∷ length plan.moves ∷ plan.looks ∷ []

-- tidying, with a lent list of n records (02, E5): "the table breaks a ring rule"; "the lent list needs 128 records"
abbrev pub tidy_reasons : RingTable → ℕ → List Reason
tidy_reasons t n = (22 when not (meets_rules t)) ∷ (20 when ltb n 128) ∷ []

-- "the number of rounds and of moves"
abbrev pub tidy_values : RingTable → List ℕ
tidy_values t = (rounds_of t).rounds ∷ length (rounds_of t).moves ∷ []
