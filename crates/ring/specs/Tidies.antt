-- 02, E5, in its own words: of a table t, a lent list of n records, and of what a tidying makes of them, the answer o and the records ms; then
-- of a tidying that writes them to the list itself. Assumes nothing. What `RingTable::tidy`, `decide_tidy` and `decide_tidy_valid` promise.
use Rattle.std.specs.Prelude.{ℕ, ◌+◌, ◌≤◌, ◌<◌, ◌≡◌, ◌⊎◌, true, false, List, [], ◌∷◌, eqb, length, take, drop, Err, Ok}
use Rattle.basis.specs.Choice.{bit}
use Rattle.basis.specs.Count.{weigh, tally, All}
use Rattle.limits.specs.Limits.{place_count}
use Rattle.lightpath.specs.Place.{direction_of}
use Rattle.lightpath.specs.Circuit.{can_share}
use Rattle.lightpath.specs.declared.Circuit.{Circuit}
use Rattle.slots.specs.Slot.{held}
use Rattle.slots.specs.declared.Slot.TheVariants.{Unlit as unlit, Alone as alone}
use Rattle.channels.specs.Channels.{at, circuits, numbered, where_is, circuit_of, lit_places}
use Rattle.moves.specs.declared.Move.{Move}
use Rattle.ports.specs.Ports.{limit_of}
use Rattle.rules.specs.Rules.{carried}
use Rattle.steps.specs.Following.{relocated}
use Rattle.steps.specs.Moved.{moved, Names}
use Rattle.refusals.specs.Answer.{refusal, done}
use Rattle.ring.specs.Table.{RingTable, meets_rules}
use Rattle.ring.specs.Tidying.{Tidying, Tidied}
use Rattle.ring.specs.Answer.{tidying_answer}

-- the second table t' and the records ms after so many rounds and k moves
pub record Tidies (t t' : RingTable) (rounds k : ℕ) (ms : List Move) : Type 0 where
  -- "Circuits and ports come through unchanged": however circuits are weighed, each with all its fields and at exactly one place
  pub same_nodes : t'.nodes ≡ t.nodes
  pub same_ports : t'.ports ≡ t.ports
  pub exact : (w : Circuit → ℕ) → weigh w (circuits t'.channels) ≡ weigh w (circuits t.channels)
  pub old : All (λ x. circuit_of t'.channels x.number ≡ x) (circuits t.channels)
  pub one_place : (n q : ℕ) → q < place_count → numbered n (held (at t'.channels q)) ≡ bit (eqb (where_is t'.channels n) q)
  -- "and the ring rules are met again"
  pub rules : meets_rules t' ≡ true
  -- "Each lowers the lit places by exactly one, there are at most 64"
  pub lit : lit_places t'.channels + rounds ≡ lit_places t.channels
  pub few_rounds : rounds ≤ 64
  -- "Rounds go on until no pair can be joined": two circuits alone at places p and q below 2 × W can share neither in the direction of one of
  -- these nor in that of an unlit place below 2 × W
  pub finished : (p q r : ℕ) (a b : Circuit) → p < q → q < limit_of t.ports → at t'.channels p ≡ alone a → at t'.channels q ≡ alone b
      → r < limit_of t.ports → (r ≡ p) ⊎ ((r ≡ q) ⊎ (at t'.channels r ≡ unlit)) → can_share t.nodes (direction_of r) a b ≡ false
  -- "the number .. of moves", for which a list of 128 records has room: it is that of the circuits that have moved
  pub few : k ≤ 128
  pub count : k ≡ weigh (λ x. bit (moved t.channels t'.channels x)) (circuits t.channels)
  -- the records name each once, with both places, and no other: no circuit moves twice
  pub many : length ms ≡ k
  pub named : All (Names t.channels t'.channels) ms
  pub once : All (λ x. tally (λ m. m.number) x.number ms ≡ bit (moved t.channels t'.channels x)) (circuits t.channels)
  -- a host that takes the listed circuits down, then sets each up at its new place, ends at the second table
  pub follows : relocated t.channels ms ≡ t'.channels
  -- no directed wavelength carries two lightpaths over one link
  pub links : (q l : ℕ) → 1 ≤ l → l ≤ t.nodes → carried t.nodes t'.channels q l ≤ 1

-- the whole of it
pub record TidiesBy (t : RingTable) (n : ℕ) (o : Tidied) (ms : List Move) : Type 0 where
  -- "the lent list needs 128 records, else 20": the table as it was, and no record
  pub refused : n < 128 → (tidying_answer o.answer ≡ refusal 20) × (o.table ≡ t) × (ms ≡ [])
  -- "It answers the number of rounds and of moves"
  pub done : 128 ≤ n → (rounds k : ℕ) × (tidying_answer o.answer ≡ done (rounds ∷ k ∷ [])) × Tidies t o.table rounds k ms

-- how many records are written: as many as there are moves, and none on a refusal
abbrev pub tidy_moves_in : Tidying → ℕ
tidy_moves_in (Ok x) = x.moves
tidy_moves_in (Err r) = 0

-- a tidying with a lent list, which is lent' afterwards
pub record TidiesLent (t : RingTable) (lent : List Move) (o : Tidied) (lent' : List Move) : Type 0 where
  -- "records stand in the order of the moves": the first of the list
  pub tidies : TidiesBy t (length lent) o (take (tidy_moves_in o.answer) lent')
  -- "and those after them keep their values"
  pub long : length lent' ≡ length lent
  pub rest : drop (tidy_moves_in o.answer) lent' ≡ drop (tidy_moves_in o.answer) lent
  -- a refusal changes no "lent memory"
  pub untouched : length lent < 128 → lent' ≡ lent
