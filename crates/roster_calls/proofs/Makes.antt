-- A ring made as a roster is that made as a table. Assumes nothing.
use Prim.Native.Nat.{ℕ}
use mathlib.Core.Path.{◌≡◌, sym, ap, ◌∙◌}
use mathlib.Core.Bool.{true}
use mathlib.Core.List.{List, []}
use Rattle.refusals.specs.declared.Refusal.{Refusal}
use Rattle.refusals.specs.Answer.{verdict_answer, answer_by}
use Rattle.ring.specs.Table.{meets_rules}
use Rattle.ring.specs.Making.{make_of}
use Rattle.ring.specs.Numbers.{make_reasons}
use Rattle.ring.specs.declared.Answered.{Answered}
use Rattle.ring.proofs.Making.{make_rules}
use Rattle.roster.specs.declared.Roster.{Roster}
use Rattle.roster.specs.declared.Built.{Built}
use Rattle.roster.specs.Roster.{arranged, table_of, stands, blank_roster}
use Rattle.roster_calls.specs.Calls.{make_roster}
use Rattle.std.specs.Prelude.{Ok, Err}

module _ (N : ℕ) (ks : List ℕ) (a : Answered) (is : a ≡ make_of N ks) where
  -- what was made meets the rules
  pub made_meets : a.verdict ≡ Ok tt → meets_rules a.table ≡ true
  made_meets e = rw is (make_rules N ks (sym (ap (λ (x : Answered). x.verdict) is) ∙ e))

  module _ (numbers : verdict_answer a.verdict ≡ answer_by (make_reasons N ks) []) where
    -- what a making is to be, of a roster
    abbrev Makes : Built → Type 0
    Makes b = (b ≡ make_roster N ks) × ((verdict_answer b.verdict ≡ answer_by (make_reasons N ks) []) × (b.verdict ≡ Ok tt → stands b.roster ≡ true))

    -- a ring that was made, arranged
    pub made_granted : (r : Roster) → a.verdict ≡ Ok tt → r ≡ arranged a.table → (stands r ≡ true) × (table_of r ≡ a.table) → Makes (record { roster = r; verdict = Ok tt })
    made_granted r e f g = (rw (← is, e) (λ i. record { roster = f i; verdict = Ok tt }), (rw e at numbers, λ h. g.0))

    -- a refused one
    pub made_refused : (b : Roster) (x : Refusal) → a.verdict ≡ Err x → b ≡ blank_roster → Makes (record { roster = b; verdict = Err x })
    made_refused b x e f = (rw (← is, e) (λ i. record { roster = f i; verdict = Err x }), (rw e at numbers, λ h. cc))
