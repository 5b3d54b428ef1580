-- The answer in numbers and values, for every table and request. Assumes nothing.
use mathlib.Core.Path.{◌≡◌, refl, sym, ap, ◌∙◌}
use mathlib.Core.Bool.{Bool, true, false, ◌&&◌, ◌||◌, not}
use mathlib.Core.List.{List, [], ◌∷◌}
use lib.Dec.{eqb}
use Rattle.basis.specs.Choice.{pick}
use Rattle.limits.specs.Limits.{least_records}
use Rattle.lightpath.specs.Circuit.{on_ring}
use Rattle.lightpath.specs.declared.Circuit.{Circuit}
use Rattle.channels.specs.Channels.{circuits, live}
use Rattle.ports_used.specs.PortsUsed.{free_transmitter, free_receiver}
use Rattle.refusals.specs.Refusal.{◌if◌, judged}
use Rattle.refusals.specs.Answer.{Answer, done, ◌when◌, answer_by}
use Rattle.refusals.specs.declared.Refusal.TheVariants.{OffRing, SameNode, NumberLive, NoTransmitter, NoReceiver}
use Rattle.ring.specs.Table.{meets_rules}
use Rattle.ring.specs.Opening.{request_causes}
use Rattle.ring.specs.declared.RingTable.{RingTable}
use Rattle.ring.proofs.Causes.{agree}
use Rattle.ending.specs.Ending.{Ending, frees, those, lowest_of, who_ends, ending_of}
use Rattle.ending.specs.Answer.{ending_answer, end_reasons, end_values}
use Rattle.ending.specs.Search.{ending_by}
use Rattle.ending.proofs.Verdicts.{ending_unmet, ending_verdict}

module _ (t : RingTable) (c : Circuit) where
  -- who would have to end is no refusal
  who_done : ending_answer (who_ends t c) ≡ done (ending_answer (who_ends t c)).values
  who_done = go (those (frees t c) (circuits t.channels))
    where
      go : (l : List Circuit) → ending_answer (lowest_of l) ≡ done (ending_answer (lowest_of l)).values
      go [] = refl
      go (x ∷ xs) = refl

  -- the answer by the rules met and the reasons, each there or not
  abbrev in_numbers : (rules off same used sender receiver : Bool) → Answer
  in_numbers rules off same used sender receiver =
      answer_by ((22 when not rules) ∷ (10 when off) ∷ (11 when same) ∷ (12 when used) ∷ [])
      (pick (sender || (receiver || false)) (ending_answer (who_ends t c)).values (0 ∷ []))

  by_causes : (off same used sender receiver : Bool)
      → ending_answer (ending_by t c (judged ((OffRing if off) ∷ (SameNode if same) ∷ (NumberLive if used) ∷ (NoTransmitter if sender) ∷ (NoReceiver if receiver) ∷ [])))
      ≡ in_numbers true off same used sender receiver
  by_causes true same used sender receiver = refl
  by_causes false true used sender receiver = refl
  by_causes false false true sender receiver = refl
  by_causes false false false true receiver = who_done
  by_causes false false false false true = who_done
  by_causes false false false false false = refl

  -- 22, 10, 11, 12; then who would have to end
  ending_numbers : ending_answer (ending_of t c) ≡ answer_by (end_reasons t c) (end_values t c)
  ending_numbers = go (meets_rules t) refl
    where
      go : (o : Bool) → meets_rules t ≡ o → ending_answer (ending_of t c) ≡ answer_by (end_reasons t c) (end_values t c)
      go true rules =
          let a = (agree t c least_records).2 in
          ap ending_answer (ending_verdict t c rules (judged (request_causes t c)) refl)
          ∙ by_causes (not (on_ring t.nodes c.source && on_ring t.nodes c.destination)) (eqb c.source c.destination)
          (live t.channels c.number) (not (free_transmitter t.ports t.channels c.source))
          (not (free_receiver t.ports t.channels c.destination))
          ∙ (λ i. in_numbers (sym rules i) (a.0 i) (eqb c.source c.destination) (live t.channels c.number) (a.2.2.2.0 i) (a.2.2.2.2.0 i))
      go false unmet = rw (ending_unmet t c unmet, unmet)

  -- an answer that is as defined, and its numbers
  abbrev pub Answered : Ending → Type 0
  Answered e = (e ≡ ending_of t c) × (ending_answer e ≡ answer_by (end_reasons t c) (end_values t c))

  pub answered : (e : Ending) → e ≡ ending_of t c → Answered e
  answered e is = (is, rw is ending_numbers)
