-- What one pass over the places finds for a new circuit: what its number and its ports are tested by, and what steps 1 and 2 look for.
-- Assumes nothing. Serves proofs inside only.
use Rattle.std.specs.Prelude.{ℕ, ◌+◌, ◌≤◌, ◌&&◌, ltb}
use Rattle.basis.specs.Choice.{pick}
use Rattle.limits.specs.Limits.{circuit_room}
use Rattle.lightpath.specs.Place.{other_way}
use Rattle.lightpath.specs.Circuit.{blank_circuit, shorter_way}
use Rattle.lightpath.specs.declared.Circuit.{Circuit}
use Rattle.slots.specs.Slot.{held, is_lit}
use Rattle.slots.specs.declared.Slot.{Slot}
use Rattle.lit_words.specs.Unlit.{unlit_in}
use Rattle.lit_words.specs.With.{with_place, RoomFor}
use Rattle.channels.specs.Channels.{Channels, circuits, numbered, lit_of}
use Rattle.channels.specs.Nonsharing.{standing_at}
use Rattle.channels.specs.declared.Standing.{Standing}
use Rattle.ports_used.specs.PortsUsed.{sends, receives}
use Rattle.steps.specs.Steps.{can_join, join_place}
pub use Rattle.survey.specs.declared.Survey.{Survey}
pub use Rattle.survey.specs.declared.Pass.{Pass}

-- the circuit at place p, where p is below the limit m; else a blank one at the limit
abbrev pub standing_below : ℕ → Channels → ℕ → Standing
standing_below m t p = pick (ltb p m) (standing_at t p) (record { place = m; circuit = blank_circuit })

-- how many circuits have its number, how many its source sends and its destination receives, the circuit that it can join, and the lit
-- places; places from the limit up count, and none there is joined
abbrev pub survey_of : ℕ → ℕ → Channels → Circuit → Survey
survey_of N m t c = record {
  numbered = numbered c.number (circuits t);
  sent = sends c.source (circuits t);
  received = receives c.destination (circuits t);
  join = standing_below m t (join_place N m t c);
  lit = lit_of t;
}

-- step 2's place by a survey's words
unfoldable pub unlit_seen : ℕ → ℕ → Circuit → Survey → ℕ
unlit_seen N m c v =
    let d = shorter_way N c in
    pick (ltb (unlit_in v.lit d m) m) (unlit_in v.lit d m) (unlit_in v.lit (other_way d) m)

-- what was seen of the places above p, with place p, which has the content s
abbrev pub pass_with : ℕ → ℕ → Circuit → ℕ → Slot → Pass → Pass
pass_with N m c p s v = record {
  numbered = v.numbered + numbered c.number (held s);
  sent = v.sent + sends c.source (held s);
  received = v.received + receives c.destination (held s);
  join = pick (ltb p m && can_join N c p s) p v.join;
  lit = pick (is_lit s) (with_place v.lit p) v.lit;
}

-- the counts and the words have room for place p
pub record Takes (v : Pass) (p : ℕ) : Type 0 where
  pub numbered : v.numbered ≤ circuit_room
  pub sent : v.sent ≤ circuit_room
  pub received : v.received ≤ circuit_room
  pub lit : RoomFor v.lit p
