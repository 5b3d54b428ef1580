-- Reading, writing and the load report of a roster are those of the table that it is of. Assumes nothing.
use Prim.Native.Nat.{ℕ}
use mathlib.Core.Path.{◌≡◌, refl, sym, ap, ◌∙◌}
use mathlib.Core.Bool.{Bool, true, false, not}
use mathlib.Core.List.{List, [], ◌∷◌}
use native.Mathlib.Omega.{arith}
use lib.ListN.{length}
use borrow.Author.Tests.{not-true, not-false}
use Rattle.refusals.specs.Answer.{verdict_answer, answer_by}
use Rattle.refusals.specs.declared.Refusal.{Refusal}
use Rattle.refusals.specs.declared.Refusal.TheVariants.{BrokenRule}
use Rattle.ring.specs.Table.{meets_rules}
use Rattle.ring.specs.declared.RingTable.{RingTable}
use Rattle.ring.specs.declared.Answered.{Answered}
use Rattle.roster.specs.declared.Roster.{Roster}
use Rattle.roster.specs.declared.Built.{Built}
use Rattle.roster.specs.Roster.{arranged, blank_roster, table_of, stands}
use Rattle.roster.proofs.Arranged.{stands_rules}
use Rattle.roster.proofs.Building.{stands_most}
use Rattle.form.specs.Form.{form_of}
use Rattle.form.specs.Reading.{read_of, read_answer}
use Rattle.form.proofs.Laws.{accepted_meets}
use Rattle.load.specs.Report.{report_of, report_reasons, buffer_after}
use Rattle.encode.specs.Answer.{written_of, written_answer, write_reasons, bytes_after}
use Rattle.std.specs.Prelude.{Result, Err}
use Rattle.roster_forms.specs.Forms.{read_roster, write_roster, write_roster_bytes, write_roster_reasons, report_roster, report_roster_bytes, report_roster_reasons}
use Rattle.refusals.specs.Refusal.{Verdict}
use Rattle.std.specs.Prelude.{Ok, Err}

-- what a reading is to be, of a roster
abbrev Reads : List ℕ → Built → Type 0
Reads s b =
    (b ≡ read_roster s)
    × ((verdict_answer b.verdict ≡ read_answer s) × (b.verdict ≡ Ok tt → (stands b.roster ≡ true) × (form_of (table_of b.roster) ≡ s)))

module _ (s : List ℕ) (a : Answered) (is : a ≡ read_of s) (numbers : verdict_answer a.verdict ≡ read_answer s) where
  -- a form that was read, arranged
  pub read_granted : (a.verdict ≡ Ok tt → form_of a.table ≡ s) → (r : Roster) → a.verdict ≡ Ok tt → r ≡ arranged a.table
      → (stands r ≡ true) × (table_of r ≡ a.table) → Reads s (record { roster = r; verdict = Ok tt })
  read_granted back r e f g = (
    rw (← is, e) (λ i. record { roster = f i; verdict = Ok tt }),
    (rw e at numbers, λ h. (g.0, ap form_of g.1 ∙ back e)),
  )

  -- a refused one
  pub read_refused : (b : Roster) (x : Refusal) → a.verdict ≡ Err x → b ≡ blank_roster → Reads s (record { roster = b; verdict = Err x })
  read_refused b x e f = (rw (← is, e) (λ i. record { roster = f i; verdict = Err x }), (rw e at numbers, λ h. absurd (differ h)))
    where
      differ : ◌≡◌ {A = Verdict} (Err x) (Ok tt) → ⊥
      differ h = omega (arith, ap which h)
        where
          which : Verdict → ℕ
          which (Ok _) = 0
          which (Err y) = 1

module _ (r : Roster) where
  pub table_meets : (t : RingTable) → stands r ≡ true → t ≡ table_of r → meets_rules t ≡ true
  table_meets t s e = rw e (stands_rules r s)

  -- one that was found to stand, and one that was found not to
  pub tested : (b : Bool) → b ≡ stands r → not b ≡ false → stands r ≡ true
  tested b is h = sym is ∙ not-false b h

  pub untested : (b : Bool) → b ≡ stands r → not b ≡ true → stands r ≡ false
  untested b is h = sym is ∙ not-true b h

-- what a writing is to be: the answer, the bytes and the numbers
abbrev Writes : Roster → List ℕ → Result ℕ Refusal → List ℕ → Type 0
Writes r l w l' =
    (w ≡ write_roster r (length l)) × ((l' ≡ write_roster_bytes r l) × (written_answer w ≡ answer_by (write_roster_reasons r (length l)) (length (form_of (table_of r)) ∷ [])))

module _ (r : Roster) (l : List ℕ) where
  -- by the writing of its table
  pub write_stands : stands r ≡ true → (t : RingTable) → t ≡ table_of r → (w : Result ℕ Refusal) (l' : List ℕ)
      → (w ≡ written_of t (length l)) × ((l' ≡ bytes_after t l) × (written_answer w ≡ answer_by (write_reasons t (length l)) (length (form_of t) ∷ [])))
      → Writes r l w l'
  unfolding write_roster write_roster_bytes
  write_stands s t e w l' h = let k = rw e at h in (rw s k.0, (rw s k.1.0, rw s (rw (stands_rules r s) at k.1.1)))

  -- one that does not stand is met by 22, and no byte changes
  pub write_refused : stands r ≡ false → Writes r l (Err BrokenRule) l
  unfolding write_roster write_roster_bytes
  write_refused f = rw f (refl, (refl, refl))

-- what a report is to be
abbrev Reports : Roster → List ℕ → Verdict → List ℕ → Type 0
Reports r l v l' = (v ≡ report_roster r (length l)) × ((l' ≡ report_roster_bytes r l) × (verdict_answer v ≡ answer_by (report_roster_reasons r (length l)) []))

module _ (r : Roster) (l : List ℕ) where
  -- by the report of its table
  pub report_stands : stands r ≡ true → (t : RingTable) → t ≡ table_of r → (v : Verdict) (l' : List ℕ)
      → (v ≡ report_of t (length l)) × ((l' ≡ buffer_after t l) × (verdict_answer v ≡ answer_by (report_reasons t (length l)) []))
      → Reports r l v l'
  unfolding report_roster report_roster_bytes
  report_stands s t e v l' h = let k = rw e at h in (rw s k.0, (rw s k.1.0, rw s (rw (stands_rules r s) at k.1.1)))

  -- one that does not stand is met by 22, and no byte changes
  pub report_refused : stands r ≡ false → Reports r l (Err BrokenRule) l
  unfolding report_roster report_roster_bytes
  report_refused f = rw f (refl, (refl, refl))

-- for `search (rules, forming)`
pub ruleset forming = (accepted_meets, stands_most, table_meets, tested, untested)
