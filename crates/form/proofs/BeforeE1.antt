-- 02, E1: "Tables saved before remain good." Every form that was read before is read now, to the same table. Assumes nothing.
use Prim.Native.Nat.{ℕ}
use mathlib.Core.Path.{◌≡◌, refl}
use mathlib.Core.Logic.{inl, ◌≢◌}
use mathlib.Core.List.{List}
use Rattle.refusals.specs.declared.Refusal.TheVariants.{BadField as no_31, BrokenForm as no_33}
use Rattle.rules.proofs.BeforeE1.{before_meets}
use Rattle.form.specs.Reading.{tests_now, read_table, read_of}
use Rattle.form.specs.BeforeE1.{tests_before_e1, read_before_e1}
use Rattle.form.proofs.Agreeing.{not_refused, implied, agrees_answer}
use Rattle.form.proofs.BeforeE2.{held_holds}
use Rattle.std.specs.Prelude.{Ok, Err}

-- 02, E1: a form that before E1 was refused by neither 33 nor 31 has the answer and the table that it had
pub answer_before : (s : List ℕ) → (read_before_e1 s).verdict ≢ Err no_33 → (read_before_e1 s).verdict ≢ Err no_31 → read_of s ≡ read_before_e1 s
unfolding read_of read_table
answer_before s rules field =
    agrees_answer tests_before_e1 tests_now s
    (record {
      map = λ ks lit. inl refl;
      fields = λ m. implied _ _ field (held_holds m);
      table = λ t. implied _ _ rules (before_meets t.nodes t.ports t.channels);
    })

-- 02, E1: "Tables saved before remain good.": every form that was read before E1 is read, to the same table
pub read_before : (s : List ℕ) → (read_before_e1 s).verdict ≡ Ok tt → read_of s ≡ read_before_e1 s
read_before s e = answer_before s (not_refused _ no_33 e) (not_refused _ no_31 e)
