-- Demand 3, in its own words: of a table t, a request c and a lent list of n records, and of what an opening makes of them, the answer o and
-- the records ms; then of an opening that writes them to the list itself. Its causes are written out here by themselves, apart from the
-- definition of the refusals. Assumes nothing. What `RingTable::open`, `decide` and `decide_valid` promise.
use Rattle.std.specs.Prelude.{ℕ, ◌+◌, ◌≤◌, ◌<◌, ◌≡◌, ◌↔◌, true, false, ◌||◌, List, [], ◌∷◌, eqb, leb, ltb, length, take, drop, Err, Ok}
use Rattle.basis.specs.Choice.{bit}
use Rattle.basis.specs.Count.{weigh, tally, All}
use Rattle.limits.specs.Limits.{place_count}
use Rattle.lightpath.specs.declared.Circuit.{Circuit}
use Rattle.slots.specs.Slot.{held}
use Rattle.channels.specs.Channels.{at, circuits, numbered, where_is, circuit_of}
use Rattle.channels.specs.Change.{puts}
use Rattle.moves.specs.declared.Move.{Move}
use Rattle.ports.specs.Ports.{limit_of, ports_at}
use Rattle.ports_used.specs.PortsUsed.{sends, receives}
use Rattle.rules.specs.Rules.{carried}
use Rattle.steps.specs.Steps.{plan_of}
use Rattle.steps.specs.Following.{followed}
use Rattle.steps.specs.Moved.{moved, Names}
use Rattle.refusals.specs.Answer.{refusal, done, Reason, ◌when◌, some_given, first_number}
use Rattle.ring.specs.Table.{RingTable, meets_rules}
use Rattle.ring.specs.Opening.{Opening, Opened}
use Rattle.ring.specs.Answer.{opening_answer}

-- "the list holds fewer than three records, or the request names a node off the ring, one node twice, a circuit number already live, a
-- source with no free transmitter or a destination with no free receiver"
abbrev pub reasons : RingTable → Circuit → ℕ → List Reason
reasons t c n =
    let cs = circuits t.channels in
    (20 when ltb n 3)
    ∷ (10 when (ltb c.source 1 || ltb t.nodes c.source || ltb c.destination 1 || ltb t.nodes c.destination))
    ∷ (11 when eqb c.source c.destination)
    ∷ (12 when leb 1 (numbered c.number cs))
    ∷ (13 when leb (ports_at t.ports c.source) (sends c.source cs))
    ∷ (14 when leb (ports_at t.ports c.destination) (receives c.destination cs))
    ∷ []

-- "the answer is then document 01's refusal"; no record is written
pub record Refused3 (t : RingTable) (c : Circuit) (n : ℕ) (o : Opened) (ms : List Move) : Type 0 where
  pub answer : opening_answer o.answer ≡ refusal (first_number (reasons t c n))
  pub table : o.table ≡ t
  pub none : ms ≡ []

-- the second table t' and the records ms after an opening of c at place p with k moves
pub record Served3 (t : RingTable) (c : Circuit) (t' : RingTable) (p k : ℕ) (ms : List Move) : Type 0 where
  -- "the second table keeps the nodes and ports of the first"
  pub same_nodes : t'.nodes ≡ t.nodes
  pub same_ports : t'.ports ≡ t.ports
  -- "meets the ring rules again"
  pub rules : meets_rules t' ≡ true
  -- "and holds exactly the circuits of the first and the one requested": however circuits are weighed
  pub exact : (w : Circuit → ℕ) → weigh w (circuits t'.channels) ≡ w c + weigh w (circuits t.channels)
  -- with all their fields
  pub old : All (λ x. circuit_of t'.channels x.number ≡ x) (circuits t.channels)
  pub new : circuit_of t'.channels c.number ≡ c
  -- each at exactly one place
  pub one_place : (n q : ℕ) → q < place_count → numbered n (held (at t'.channels q)) ≡ bit (eqb (where_is t'.channels n) q)
  -- "all where document 01's steps put them"
  pub steps : t'.channels ≡ puts (plan_of t.nodes (limit_of t.ports) t.channels c).changes t.channels
  -- "the new one at the place answered"
  pub placed : where_is t'.channels c.number ≡ p
  -- "at most three of the old have moved, the number of moves is the number of these"
  pub few : k ≤ 3
  pub count : k ≡ weigh (λ x. bit (moved t.channels t'.channels x)) (circuits t.channels)
  -- "the records written name each once with both places"
  pub many : length ms ≡ k
  pub named : All (Names t.channels t'.channels) ms
  pub once : All (λ x. tally (λ m. m.number) x.number ms ≡ bit (moved t.channels t'.channels x)) (circuits t.channels)
  -- document 01: "All listed circuits are taken down before any is set up." A host that does so ends at the second table
  pub follows : followed t.channels ms c p ≡ t'.channels
  -- "no directed wavelength carries two lightpaths over one link"
  pub links : (q l : ℕ) → 1 ≤ l → l ≤ t.nodes → carried t.nodes t'.channels q l ≤ 1

-- the answer is a place, a number of moves and of looks
abbrev pub ServedBy : RingTable → Circuit → Opened → List Move → Type 0
ServedBy t c o ms = (p k looks : ℕ) × (opening_answer o.answer ≡ done (p ∷ k ∷ looks ∷ [])) × Served3 t c o.table p k ms

-- the whole of it
pub record Demand3 (t : RingTable) (c : Circuit) (n : ℕ) (o : Opened) (ms : List Move) : Type 0 where
  -- "the tables before and after are equal exactly when .."
  pub equal : (o.table ≡ t) ↔ (some_given (reasons t c n) ≡ true)
  pub refused : some_given (reasons t c n) ≡ true → Refused3 t c n o ms
  -- "Otherwise .."
  pub served : some_given (reasons t c n) ≡ false → ServedBy t c o ms

-- how many records are written: as many as there are moves, and none on a refusal
abbrev pub moves_in : Opening → ℕ
moves_in (Ok x) = x.moves
moves_in (Err r) = 0

-- an opening with a lent list, which is lent' afterwards
pub record Demand3Lent (t : RingTable) (c : Circuit) (lent : List Move) (o : Opened) (lent' : List Move) : Type 0 where
  -- of "the records written", which are the first of the list
  pub demand : Demand3 t c (length lent) o (take (moves_in o.answer) lent')
  -- "the others keep their values"
  pub long : length lent' ≡ length lent
  pub rest : drop (moves_in o.answer) lent' ≡ drop (moves_in o.answer) lent
  -- a refusal changes no "lent memory"
  pub untouched : some_given (reasons t c (length lent)) ≡ true → lent' ≡ lent
