-- Demand 3 in what an opening prints, for every desk whose table meets the ring rules. Assumes nothing.
use Prim.Native.Nat.{ℕ, ◌+◌, ◌≤◌}
use mathlib.Core.Path.{◌≡◌, refl, ap, ◌∙◌}
use mathlib.Core.Logic.{◌↔◌}
use mathlib.Core.Bool.{true, false}
use mathlib.Core.List.{List, ◌++◌, append-nil}
use native.Mathlib.Omega.{arith}
use lib.ListN.{length, take, drop, length-append}
use lib.Seq.{slice, sets-eq, take_at, drop_at, length-take-le}
use Rattle.buffer.specs.Put.{Put}
use Rattle.lightpath.specs.declared.Circuit.{Circuit}
use Rattle.moves.specs.Records.{listed}
use Rattle.refusals.specs.Answer.{refusal, some_given}
use Rattle.ring.specs.Table.{meets_rules}
use Rattle.ring.specs.Answer.{opening_answer}
use Rattle.ring.specs.Demand3.{reasons, Refused3}
use Rattle.ring.specs.Opening.{decide_of, Opening}
use Rattle.ring.specs.declared.Decision.{Decision}
use Rattle.ring.proofs.Demand.{demand3, answered}
use Rattle.print.specs.Answers.{refused_line, open_line}
use Rattle.roster.specs.declared.Heading.{Heading}
use Rattle.desk.specs.Desk.{Desk, Ran, desk_of, Keeps, Outcome, run_open, run_line, CanRun, HasRun}
use Rattle.desk.specs.Demand3.{Refuses, Serves, OpensBy, Opens, left_by}
use Rattle.std.specs.Prelude.{Option, Some, None, Err, Ok}

-- an opening that answers by a refusal prints its number
refusal_line : (n m : ℕ) (a : Opening) → opening_answer a ≡ refusal m → open_line n a ≡ refused_line n m
refusal_line n m (Ok _) e = absurd (omega (arith, ap (λ x. length x.values) e))
refusal_line n m (Err r) e = rw (ap (λ x. x.number) e)

module _ (d : Desk) (c : Circuit) (ready : d.ready ≡ true) (rules : meets_rules d.table ≡ true) where
  abbrev decision : Decision
  decision = decide_of d.table c 3

  serves : some_given (reasons d.table c 3) ≡ false → Serves d c (run_open d c)
  unfolding run_open
  serves g = go decision.opened.answer refl
    where
      go : (o : Opening) → decision.opened.answer ≡ o → Serves d c (run_open d c)
      go (Ok x) e =
          let held = answered d.table c 3 rules x.place x.moves x.looks e in
          record {
            table = decision.opened.table;
            place = x.place.0;
            moves = x.moves;
            looks = x.looks;
            records = listed decision.moves;
            demand3 = held.0;
            values = held.1;
            desk = rw ready;
            text = rw (ready, e);
          }
      go (Err r) e =
          let held = (demand3 d.table c 3 rules).served g in
          absurd (omega (arith, ap (λ x. length (opening_answer x).values) e, ap (λ x. length x.values) held.3))

  refuses : some_given (reasons d.table c 3) ≡ true → Refuses d c (run_open d c)
  unfolding run_open
  refuses g =
      let q : Refused3 d.table c 3 decision.opened (listed decision.moves) = (demand3 d.table c 3 rules).refused g in
      record { desk = rw (ready, q.table); text = rw (ready, q.none, append-nil) (refusal_line c.number _ decision.opened.answer q.answer) }

  -- the tables are equal exactly when there is a reason
  equal : ((run_open d c).desk.table ≡ d.table) ↔ (some_given (reasons d.table c 3) ≡ true)
  unfolding run_open
  equal = rw ready (demand3 d.table c 3 rules).equal

  opens_by : OpensBy d c (run_open d c)
  opens_by = record { equal = equal; refuses = refuses; serves = serves }

-- a text stands where it was put
put_text : (l text l' : List ℕ) (at next : ℕ) → Put l at text l' next → next ≤ length l → slice at next l' ≡ text
put_text l text l' at next p h =
    let room : at + length text ≤ length l = omega (arith, p.end) in
    let long : length (take at l) ≡ at = length-take-le at l (omega arith) in
    let both : length (take at l ++ text) ≡ next = length-append (take at l) text ∙ omega (arith, long, p.end) in
    rw (p.is, sets-eq text l at room, take_at (take at l ++ text) (drop (at + length text) l) next both) (drop_at (take at l) text at long)

-- what a line left is its outcome
pub left_is : (o : Outcome) (l : List ℕ) (at : ℕ) (keys rests l' : List ℕ) (r : Ran) → desk_of r.desk keys rests ≡ o.desk → Put l at o.text l' r.next
    → r.next ≤ length l → left_by at keys rests l' r ≡ o
left_is o l at keys rests l' r e p h i = record { desk = e i; text = put_text l o.text l' at r.next p h i }

-- each line that asks for an opening
pub line_opens : (d : Option Heading) (keys rests line : List ℕ) → Keeps d keys rests → Opens (desk_of d keys rests) line (run_line (desk_of d keys rests) line)
line_opens d keys rests line keeps = record { each = λ c e ready. rw e (opens_by (desk_of d keys rests) c ready (meets d keeps ready)) }
  where
    meets : (s : Option Heading) → Keeps s keys rests → (desk_of s keys rests).ready ≡ true → meets_rules (desk_of s keys rests).table ≡ true
    meets (Some h) k e = (k.held h refl).holds.rules
    meets None k e = let z : ◌≡◌ {A = ℕ} 0 1 = cc in absurd (omega arith)

-- Demand 3: what a line that asks for an opening leaves and prints is the table, place, moves, looks and records of which demand 3 holds, and
-- the tables are equal exactly when there is a reason
pub opens : (d : Option Heading) (keys rests line l : List ℕ) (at : ℕ) (keys' rests' l' : List ℕ) (r : Ran) → CanRun d keys rests l at
    → HasRun (run_line (desk_of d keys rests) line) l at keys' rests' l' r → Opens (desk_of d keys rests) line (left_by at keys' rests' l' r)
opens d keys rests line l at keys' rests' l' r s h =
    rw (left_is (run_line (desk_of d keys rests) line) l at keys' rests' l' r h.desk h.text.put (omega (arith, h.text.short, s.room)))
    (line_opens d keys rests line s.keeps)
