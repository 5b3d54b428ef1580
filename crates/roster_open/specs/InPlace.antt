-- 02, E7: an opening, a placing and a closing on keys and rests in place give what the old arrangement gives. Assumes nothing. What `open_in`,
-- `place_in` and `close_in` promise.
use Rattle.std.specs.Prelude.{ℕ, ◌≤◌, ◌<◌, ◌≡◌, List, [], ◌∷◌, map, eqb}
use Rattle.basis.specs.Choice.{pick}
use Rattle.basis.specs.Count.{tally, All}
use Rattle.limits.specs.Limits.{place_count}
use Rattle.channels.specs.declared.Standing.{Standing}
use Rattle.moves.specs.declared.Move.{Move}
use Rattle.ring.specs.declared.Decision.{Decision}
use Rattle.ring.specs.declared.Answered.{Answered}
use Rattle.roster.specs.Held.{HoldsTable}
use Rattle.roster.specs.Listed.{Lists}
pub use Rattle.roster_open.specs.declared.OpenedIn.{OpenedIn}
pub use Rattle.roster_open.specs.declared.ClosedIn.{ClosedIn}

-- an opening as decided of a table: its answer, its moves, and the lists hold the table after it
pub record OpensIn (d : Decision) (keys rests : List ℕ) (r : OpenedIn) : Type 0 where
  pub answer : r.answer ≡ d.opened.answer
  pub moves : r.moves ≡ d.moves
  pub after : HoldsTable d.opened.table r.heading keys rests

-- a closing as answered of a table
pub record ClosesIn (a : Answered) (keys rests : List ℕ) (r : ClosedIn) : Type 0 where
  pub verdict : r.verdict ≡ a.verdict
  pub after : HoldsTable a.table r.heading keys rests

-- an entry after a move: the circuit that it names has its new place
abbrev pub replaced : Move → Standing → Standing
replaced m e = pick (eqb m.number e.circuit.number) (record { place = m.to.0; circuit = e.circuit }) e

-- and all entries after several, one after the other
abbrev pub replaced_all : List Move → List Standing → List Standing
replaced_all [] es = es
replaced_all (m ∷ ms) es = replaced_all ms (map (replaced m) es)

-- no number stands twice
abbrev pub Single : List Standing → Type 0
Single es = (n : ℕ) → tally (λ e. e.circuit.number) n es ≤ 1

-- the rests after several moves
pub record Replaces (ms : List Move) (keys rests : List ℕ) (count : ℕ) (rests' : List ℕ) : Type 0 where
  pub after : (es : List Standing) → Single es → All (λ m. m.to.0 < place_count) ms → Lists es keys rests count → Lists (replaced_all ms es) keys rests' count
