-- An opening on a roster is that on its table, and meets demand 3. Assumes nothing.
use Prim.Native.Nat.{ℕ}
use mathlib.Core.Path.{◌≡◌, refl, ap, ◌∙◌}
use mathlib.Core.Bool.{true, false}
use mathlib.Core.List.{List}
use lib.ListN.{length}
use Rattle.lightpath.specs.declared.Circuit.{Circuit}
use Rattle.moves.specs.Records.{none, listed}
use Rattle.moves.specs.Lent.{written}
use Rattle.moves.specs.declared.Move.{Move}
use Rattle.moves.specs.declared.Moves.{Moves}
use Rattle.moves.proofs.Front.{fronted_none}
use Rattle.refusals.specs.declared.Refusal.TheVariants.{BrokenRule}
use Rattle.refusals.specs.Answer.{answer_by}
use Rattle.ring.specs.Opening.{decide_of, open_of}
use Rattle.ring.specs.Answer.{opening_answer}
use Rattle.ring.specs.Numbers.{open_values}
use Rattle.ring.specs.Demand3.{reasons, Demand3}
use Rattle.ring.proofs.Numbers.{open_numbers}
use Rattle.ring.proofs.Demand.{demand3, demand3_open}
use Rattle.roster.specs.declared.Roster.{Roster}
use Rattle.roster.specs.Roster.{table_of, stands}
use Rattle.roster.specs.Held.{table_in}
use Rattle.roster.proofs.Arranged.{stands_rules}
use Rattle.roster_open.specs.InPlace.{OpensIn}
use Rattle.roster_open.specs.declared.OpenedIn.{OpenedIn}
use Rattle.roster_calls.specs.Calls.{Decided, decision_arranged, decide_roster, open_roster, open_roster_lent, open_roster_reasons, opened_table}
use Rattle.roster_calls.specs.Demand3.{Demand3Held, Demand3HeldLent}
use Rattle.roster_calls.proofs.Standing.{stands_same, held_arranged, held_stands}
use Rattle.roster_calls.proofs.Lifted.{lifted_given, lifted_by, lifted_numbers, lifted_valid, lifted_refused}
use Rattle.std.specs.Prelude.{Err}

-- the answer in numbers
abbrev pub Numbered : Roster → Circuit → ℕ → Decided → Type 0
Numbered r c n d = opening_answer d.opened.answer ≡ answer_by (open_roster_reasons r c n) (open_values (table_of r) c)

-- and demand 3, by value
abbrev pub Keeps : Roster → Circuit → ℕ → Decided → Type 0
Keeps r c n d = Demand3Held r c n d.opened (listed d.moves)

module _ (r : Roster) (c : Circuit) (n : ℕ) where
  -- for every roster
  pub roster_numbers : Numbered r c n (decide_roster r c n)
  roster_numbers = lifted_numbers r _ _ (λ (d : Decided). opening_answer d.opened.answer) (reasons (table_of r) c n) (open_values (table_of r) c) (open_numbers (table_of r) c n) refl

  module _ (s : stands r ≡ true) where
    -- an opening that gives what the old one gives, and the table again, meets demand 3
    module _ (d : Decided) (is : d ≡ decision_arranged (decide_of (table_of r) c n)) (u : (stands d.opened.roster ≡ true) × (table_of d.opened.roster ≡ (decide_of (table_of r) c n).opened.table)) where
      keeps : Keeps r c n d
      keeps = record {
        equal = (λ k. demand.equal.0 (ap table_of k), λ g. stands_same r s d.opened.roster u.0 (demand.equal.1 g));
        again = u.0;
        back = u.1;
        demand = demand;
      }
        where
          opened : opened_table d.opened ≡ (decide_of (table_of r) c n).opened
          opened = λ i. record { table = u.1 i; answer = (is i).opened.answer }

          demand : Demand3 (table_of r) c n (opened_table d.opened) (listed d.moves)
          demand = rw (opened, ap (λ (d : Decided). d.moves) is) (demand3 (table_of r) c n (stands_rules r s))

    -- one on a copy of the lists is as defined
    module _ (keys rests : List ℕ) (o : OpenedIn) (does : OpensIn (decide_of (table_in r.heading r.keys r.rests) c n) keys rests o) where
      abbrev left : Decided
      left = record { opened = record { roster = record { keys = keys; rests = rests; heading = o.heading }; answer = o.answer }; moves = o.moves }

      pub opens_valid : (left ≡ decide_roster r c n) × (Numbered r c n left × ((stands left.opened.roster ≡ true) × Keeps r c n left))
      unfolding table_of
      opens_valid =
          let e = held_arranged _ o.heading keys rests does.after in
          let u = held_stands _ o.heading keys rests does.after in
          let is : left ≡ decision_arranged (decide_of (table_of r) c n) = λ i. record { opened = record { roster = e i; answer = does.answer i }; moves = does.moves i } in
          lifted_valid r _ _ (Numbered r c n) roster_numbers left s is (u.0, keeps left is u)

  -- a roster that does not stand is met by 22
  module _ (f : stands r ≡ false) (ms : Moves) (e : ms ≡ none) where
    abbrev kept : Decided
    kept = record { opened = record { roster = r; answer = Err BrokenRule }; moves = ms }

    pub opens_refused : (kept ≡ decide_roster r c n) × (Numbered r c n kept × (stands r ≡ true → Keeps r c n kept))
    opens_refused = lifted_refused r _ _ (Numbered r c n) roster_numbers kept f (rw e)

-- with a lent list: it is afterwards as the old opening leaves it
module _ (r : Roster) (c : Circuit) (lent lent' : List Move) (f : lent' ≡ written lent (decide_roster r c (length lent)).moves) where
  pub lent_is : lent' ≡ open_roster_lent r c lent
  lent_is = f ∙ lifted_by r _ _ (λ (d : Decided). written lent d.moves) _ _ refl (fronted_none _ lent)

  -- and demand 3 holds of it
  pub lent_demand : (stands r ≡ true → Keeps r c (length lent) (decide_roster r c (length lent))) → stands r ≡ true → Demand3HeldLent r c lent (open_roster r c lent) lent'
  lent_demand keeps s = record {
    equal = (keeps s).equal;
    again = (keeps s).again;
    demand = demand3_open (table_of r) c lent (opened_table (open_roster r c lent)) lent' opened (f ∙ ap (λ (d : Decided). written lent d.moves) is) (stands_rules r s);
  }
    where
      is : decide_roster r c (length lent) ≡ decision_arranged (decide_of (table_of r) c (length lent))
      is = lifted_given r _ _ s

      opened : opened_table (open_roster r c lent) ≡ open_of (table_of r) c lent
      opened = λ i. record { table = (keeps s).back i; answer = ap (λ (d : Decided). d.opened.answer) is i }
