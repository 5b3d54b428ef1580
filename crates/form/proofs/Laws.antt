-- A saved form read back gives the table written, and each table has one form. Assumes nothing.
use Prim.Native.Nat.{ℕ}
use mathlib.Core.Path.{◌≡◌, refl, sym, ap, ◌∙◌}
use mathlib.Core.Bool.{true}
use mathlib.Core.List.{List}
use native.Mathlib.Omega.{arith}
use Rattle.refusals.specs.Answer.{verdict_answer}
use Rattle.ring.specs.Table.{meets_rules}
use Rattle.ring.specs.declared.RingTable.{RingTable}
use Rattle.ring.specs.declared.Answered.{Answered}
use Rattle.form.specs.Form.{form_of}
use Rattle.form.specs.Reader.{Field, got, fault}
use Rattle.form.specs.Reading.{answered_by, read_table, read_of, answer_in, read_answer, NamesAreNumbers}
use Rattle.form.proofs.Fields.{Holds, AreBytes}
use Rattle.form.proofs.Tables.{table_back, table_meets, table_wrote}
use Rattle.std.specs.Prelude.{Ok}

-- Demand 2: "A saved form read back gives the table written": so it is of every table that meets the ring rules
pub read_back : (t : RingTable) → meets_rules t ≡ true → read_of (form_of t) ≡ record { table = t; verdict = Ok tt }
unfolding read_of
read_back t m = rw (table_back t m)

-- Demand 2: two tables that meet the ring rules and have one form are one
pub one_table : (t u : RingTable) → meets_rules t ≡ true → meets_rules u ≡ true → form_of t ≡ form_of u → t ≡ u
one_table t u m n e = ap (λ (a : Answered). a.table) (sym (read_back t m) ∙ ap read_of e ∙ read_back u n)

-- the answer of reading in 01's numbers
pub read_number : (s : List ℕ) → verdict_answer (read_of s).verdict ≡ read_answer s
unfolding read_of read_answer
read_number s = go (read_table s)
  where
    go : (f : Field RingTable) → verdict_answer (answered_by f).verdict ≡ answer_in f
    go (got t r) = refl
    go (fault n) = refl

pub granted_holds : (P : RingTable → List ℕ → Type 0) (f : Field RingTable) → Holds P f → (answered_by f).verdict ≡ Ok tt → (r : List ℕ) × P (answered_by f).table r
granted_holds P (got t r) h e = (r, h)
granted_holds P (fault n) h e = let z : ◌≡◌ {A = ℕ} 0 1 = cc in absurd (omega arith)

-- Law: whatever is read without a refusal meets the ring rules
pub read_meets : (s : List ℕ) → (read_of s).verdict ≡ Ok tt → meets_rules (read_of s).table ≡ true
unfolding read_of
read_meets s e = (granted_holds _ (read_table s) (table_meets s) e).1

-- and so does the table of an answer that is what reading gives
pub accepted_meets : (s : List ℕ) (a : Answered) → a ≡ read_of s → a.verdict ≡ Ok tt → meets_rules a.table ≡ true
accepted_meets s a e g = rw e (read_meets s (rw e at g))

-- Demand 2: "each table has one form": what is read without a refusal writes back to the very bytes read
pub write_back : (s : List ℕ) → AreBytes s → (read_of s).verdict ≡ Ok tt → form_of (read_of s).table ≡ s
unfolding read_of
write_back s h e = (granted_holds _ (read_table s) (table_wrote s h) e).1

-- the names of the refusals of reading are their numbers
pub names_are_numbers : NamesAreNumbers
names_are_numbers = (refl, refl, refl, refl, refl, refl, refl)
