-- A tidying of a roster is that of its table. Assumes nothing.
use Prim.Native.Nat.{ℕ}
use mathlib.Core.Path.{◌≡◌, refl, ap, ◌∙◌}
use mathlib.Core.Bool.{true, false}
use mathlib.Core.List.{List, [], ◌∷◌}
use lib.Dec.{ltb}
use lib.ListN.{length}
use Rattle.moves.specs.MoveList.{list_of, recorded, written_all}
use Rattle.moves.specs.declared.Move.{Move}
use Rattle.moves.specs.declared.MoveList.{MoveList}
use Rattle.moves.proofs.Front.{fronted_none}
use Rattle.refusals.specs.declared.Refusal.TheVariants.{BrokenRule}
use Rattle.refusals.specs.Answer.{◌when◌, answer_by}
use Rattle.ring.specs.Table.{meets_rules}
use Rattle.ring.specs.Tidying.{decide_tidy_of, tidy_of}
use Rattle.ring.specs.Answer.{tidying_answer}
use Rattle.ring.specs.Numbers.{tidy_values}
use Rattle.ring.specs.declared.RingTable.{RingTable}
use Rattle.ring.specs.declared.TidyDecision.{TidyDecision}
use Rattle.ring.proofs.Rounds.{tidy_numbers, tidy_rules, tidies_by, tidies_lent}
use Rattle.roster.specs.declared.Roster.{Roster}
use Rattle.roster.specs.Roster.{arranged, table_of, stands}
use Rattle.roster.proofs.Arranged.{stands_rules}
use Rattle.roster.proofs.Building.{stands_most}
use Rattle.roster_calls.specs.Calls.{TidyDecided, tidying_arranged, decide_tidy_roster, tidy_roster, tidy_roster_lent, tidy_roster_reasons, tidied_table}
use Rattle.roster_calls.specs.Tidies.{TidiesHeld, TidiesHeldLent}
use Rattle.roster_calls.proofs.Standing.{tested, untested}
use Rattle.roster_calls.proofs.Lifted.{lifted_given, lifted_by, lifted_numbers, lifted_valid, lifted_refused}
use Rattle.std.specs.Prelude.{Err}

-- the answer in numbers
abbrev pub Numbered : Roster → ℕ → TidyDecided → Type 0
Numbered r n d = tidying_answer d.tidied.answer ≡ answer_by (tidy_roster_reasons r n) (tidy_values (table_of r))

-- and what a tidying does
abbrev pub Keeps : Roster → ℕ → TidyDecided → Type 0
Keeps r n d = TidiesHeld r n d.tidied (recorded d.moves)

module _ (r : Roster) (n : ℕ) where
  -- for every roster
  pub roster_numbers : Numbered r n (decide_tidy_roster r n)
  roster_numbers = lifted_numbers r _ _ (λ (d : TidyDecided). tidying_answer d.tidied.answer) ((20 when ltb n 128) ∷ []) (tidy_values (table_of r)) (tidy_numbers (table_of r) n) refl

  module _ (s : stands r ≡ true) (t : RingTable) (same : t ≡ table_of r) where
    -- its table meets the rules, and so does the table after it
    pub tidy_meets : meets_rules t ≡ true
    tidy_meets = rw same (stands_rules r s)

    module _ (d : TidyDecision) (is : d ≡ decide_tidy_of t n) where
      pub tidied_meets : meets_rules d.tidied.table ≡ true
      tidied_meets = rw (is, same) (tidy_rules (table_of r) (stands_rules r s) n)

      -- the table arranged after it
      module _ (u : Roster) (e : u ≡ arranged d.tidied.table) (back : (stands u ≡ true) × (table_of u ≡ d.tidied.table)) where
        abbrev left : TidyDecided
        left = record { tidied = record { roster = u; answer = d.tidied.answer }; moves = d.moves }

        is_table : d ≡ decide_tidy_of (table_of r) n
        is_table = is ∙ ap (λ (x : RingTable). decide_tidy_of x n) same

        pub tidies_valid : (left ≡ decide_tidy_roster r n) × (Numbered r n left × ((stands u ≡ true) × Keeps r n left))
        tidies_valid =
            lifted_valid r _ _ (Numbered r n) roster_numbers left s ((λ i. record { tidied = record { roster = e i; answer = d.tidied.answer }; moves = d.moves }) ∙ ap tidying_arranged is_table)
            (back.0, record { again = back.0; back = back.1 ∙ ap (λ (x : TidyDecision). x.tidied.table) is_table; tidies = rw (back.1, is_table) (tidies_by (table_of r) (stands_rules r s) n) })

  -- a roster that does not stand is met by 22
  module _ (f : stands r ≡ false) (ms : MoveList) (e : ms ≡ list_of []) where
    abbrev kept : TidyDecided
    kept = record { tidied = record { roster = r; answer = Err BrokenRule }; moves = ms }

    pub tidies_refused : (kept ≡ decide_tidy_roster r n) × (Numbered r n kept × (stands r ≡ true → Keeps r n kept))
    tidies_refused = lifted_refused r _ _ (Numbered r n) roster_numbers kept f (rw e)

-- with a lent list: it is afterwards as the old tidying leaves it
module _ (r : Roster) (lent lent' : List Move) (f : lent' ≡ written_all lent (decide_tidy_roster r (length lent)).moves) where
  pub lent_is : lent' ≡ tidy_roster_lent r lent
  lent_is = f ∙ lifted_by r _ _ (λ (d : TidyDecided). written_all lent d.moves) _ _ refl (fronted_none _ lent)

  -- and what a tidying does holds of it
  pub lent_tidies : (stands r ≡ true → Keeps r (length lent) (decide_tidy_roster r (length lent))) → stands r ≡ true → TidiesHeldLent r lent (tidy_roster r lent) lent'
  lent_tidies keeps s = record {
    again = (keeps s).again;
    tidies = tidies_lent (table_of r) lent (tidied_table (tidy_roster r lent)) lent' tidied (f ∙ ap (λ (d : TidyDecided). written_all lent d.moves) is) (stands_rules r s);
  }
    where
      is : decide_tidy_roster r (length lent) ≡ tidying_arranged (decide_tidy_of (table_of r) (length lent))
      is = lifted_given r _ _ s

      tidied : tidied_table (tidy_roster r lent) ≡ tidy_of (table_of r) lent
      tidied = λ i. record { table = (keeps s).back i; answer = (is i).tidied.answer }

-- for `search (rules, tidying)`
pub ruleset tidying = (stands_most, tidy_meets, tidied_meets, tested, untested)
