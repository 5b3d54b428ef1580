-- 01, "Opening a circuit": the causes of a refusal in their order, and the answer. Assumes nothing.
-- What `RingTable::open`, `decide`, `decide_valid` and `place` promise.
use Rattle.std.specs.Prelude.{ℕ, not, List, [], ◌∷◌, ◌++◌, ltb, length, Result, Ok, Err}
use Rattle.limits.specs.Limits.{least_records}
use Rattle.lightpath.specs.declared.Circuit.{Circuit}
use Rattle.channels.specs.Channels.{live}
use Rattle.channels.specs.Change.{puts}
use Rattle.moves.specs.Records.{none, moves_of}
use Rattle.moves.specs.Lent.{written}
use Rattle.moves.specs.declared.Move.{Move}
use Rattle.ports.specs.Ports.{limit_of}
use Rattle.ports_used.specs.PortsUsed.{free_transmitter, free_receiver}
use Rattle.steps.specs.Plan.{Plan}
use Rattle.steps.specs.Steps.{plan_of}
use Rattle.refusals.specs.Refusal.{Cause, ◌if◌, judged, Verdict}
use Rattle.refusals.specs.declared.Refusal.{Refusal}
use Rattle.refusals.specs.declared.Refusal.TheVariants.{NumberLive, NoTransmitter, NoReceiver, ShortList, BrokenRule}
use Rattle.causes.specs.Causes.{named_causes}
use Rattle.ring.specs.Table.{RingTable, meets_rules, with_channels}
pub use Rattle.ring.specs.declared.Taken.{Taken}
pub use Rattle.ring.specs.declared.Opened.{Opened}
pub use Rattle.ring.specs.declared.Decision.{Decision}

-- "place taken, number of moves, looks", or a refusal
abbrev pub Opening : Type 0
Opening = Result Taken Refusal

-- what a request is refused for by what is in use: 12, 13, 14
abbrev pub used_causes : RingTable → Circuit → List Cause
used_causes t c =
    (NumberLive if live t.channels c.number)
    ∷ (NoTransmitter if not (free_transmitter t.ports t.channels c.source))
    ∷ (NoReceiver if not (free_receiver t.ports t.channels c.destination))
    ∷ []

-- by the nodes that it names, 10 and 11, and by that
abbrev pub request_causes : RingTable → Circuit → List Cause
request_causes t c = named_causes t.nodes c ++ used_causes t c

-- with a lent list of n records: 20, then those
abbrev pub open_causes : RingTable → Circuit → ℕ → List Cause
open_causes t c n = (ShortList if ltb n least_records) ∷ request_causes t c

-- a plan of the steps carried out: the table after its changes, the place taken, the number of moves and the looks; and the moves
abbrev pub carried_out : RingTable → Plan → Decision
carried_out t plan = record {
  opened = record {
    table = with_channels t (puts plan.changes t.channels);
    answer = Ok (record { place = record { 0 = plan.taken }; moves = length plan.moves; looks = plan.looks });
  };
  moves = moves_of plan.moves;
}

-- a refusal carries only its number and the table as handed in
abbrev pub refusing : RingTable → Refusal → Decision
refusing t r = record { opened = record { table = t; answer = Err r }; moves = none }

-- the plan of the steps for a circuit, and the circuit placed by it with nothing asked
abbrev pub planned : RingTable → Circuit → Plan
planned t c = plan_of t.nodes (limit_of t.ports) t.channels c

abbrev pub placing : RingTable → Circuit → Decision
placing t c = carried_out t (planned t c)

-- a request by the verdict on it
abbrev pub decided_by : RingTable → Circuit → Verdict → Decision
decided_by t c (Ok _) = placing t c
decided_by t c (Err r) = refusing t r

-- an opening with a lent list of n records: 22, 20, 10, 11, 12, 13, 14, else the steps
unfoldable pub decide_of : RingTable → Circuit → ℕ → Decision
decide_of t c n = decided_by t c (judged ((BrokenRule if not (meets_rules t)) ∷ open_causes t c n))

-- the table goes in whole and comes back whole with the answer; and the lent list afterwards
abbrev pub open_of : RingTable → Circuit → List Move → Opened
open_of t c lent = (decide_of t c (length lent)).opened

abbrev pub lent_after : RingTable → Circuit → List Move → List Move
lent_after t c lent = written lent (decide_of t c (length lent)).moves
