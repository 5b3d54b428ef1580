-- 02, E8: the answer in numbers and values. Assumes nothing. What `ends` and `ends_valid` promise.
use Rattle.std.specs.Prelude.{ℕ, not, ◌||◌, List, [], ◌∷◌, eqb, leb, ltb}
use Rattle.basis.specs.Choice.{pick}
use Rattle.lightpath.specs.declared.Circuit.{Circuit}
use Rattle.channels.specs.Channels.{circuits, numbered}
use Rattle.ports.specs.Ports.{ports_at}
use Rattle.ports_used.specs.PortsUsed.{sends, receives}
use Rattle.refusals.specs.Refusal.{number_of}
use Rattle.refusals.specs.Answer.{Answer, refusal, done, Reason, ◌when◌, some_given}
use Rattle.ring.specs.Table.{meets_rules}
use Rattle.ring.specs.declared.RingTable.{RingTable}
use Rattle.ending.specs.Ending.{Ending, ends, nobody, served, not_asked, who_ends}

-- how many circuits have to end, and the number of the one; no value where no circuit's end helps
abbrev pub ending_answer : Ending → Answer
ending_answer served = done (0 ∷ [])
ending_answer (ends n) = done (1 ∷ n ∷ [])
ending_answer nobody = done []
ending_answer (not_asked r) = refusal (number_of r)

-- "the request names a node off the ring, one node twice, a circuit number already live"
abbrev pub name_reasons : RingTable → Circuit → List Reason
name_reasons t c =
    (10 when (ltb c.source 1 || ltb t.nodes c.source || ltb c.destination 1 || ltb t.nodes c.destination))
    ∷ (11 when eqb c.source c.destination)
    ∷ (12 when leb 1 (numbered c.number (circuits t.channels)))
    ∷ []

-- "a source with no free transmitter or a destination with no free receiver"
abbrev pub port_reasons : RingTable → Circuit → List Reason
port_reasons t c =
    (13 when leb (ports_at t.ports c.source) (sends c.source (circuits t.channels)))
    ∷ (14 when leb (ports_at t.ports c.destination) (receives c.destination (circuits t.channels)))
    ∷ []

-- the table breaks a ring rule; then 10, 11 and 12 as an opening's
abbrev pub end_reasons : RingTable → Circuit → List Reason
end_reasons t c = (22 when not (meets_rules t)) ∷ name_reasons t c

-- where 13 or 14 would meet the request, who would have to end; else nobody has to
abbrev pub end_values : RingTable → Circuit → List ℕ
end_values t c = pick (some_given (port_reasons t c)) (ending_answer (who_ends t c)).values (0 ∷ [])
