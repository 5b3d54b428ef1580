-- What writing answers, and what it leaves in the lent bytes. Assumes nothing.
use Prim.Native.Nat.{ℕ, ◌+◌, ◌≤◌, ◌<◌}
use mathlib.Core.Path.{◌≡◌, ◌∙◌}
use mathlib.Core.Bool.{Bool, true, false, not}
use mathlib.Core.List.{List, [], ◌∷◌, ◌++◌}
use native.Mathlib.Nat.{zero-add}
use native.Mathlib.Omega.{arith}
use lib.Dec.{ltb}
use lib.ListN.{length, drop}
use lib.Seq.{sets, sets-eq}
use borrow.Author.Tests.{lt-ltb, le-ltb, not-true, not-false}
use Rattle.basis.proofs.Branch.{said}
use Rattle.refusals.specs.Answer.{Answer, refusal, done, answer_by}
use Rattle.refusals.specs.declared.Refusal.TheVariants.{ShortBuffer, BrokenRule}
use Rattle.ring.specs.Table.{meets_rules}
use Rattle.ring.specs.declared.RingTable.{RingTable}
use Rattle.ring.proofs.TableRules.{few_nodes}
use Rattle.buffer.specs.Put.{Room, Put}
use Rattle.form.specs.Form.{form_of}
use Rattle.std.specs.Prelude.{Ok, Err}
use Rattle.encode.specs.Answer.{written_of, write_reasons, bytes_after}

-- the answer in 01's numbers, of lent bytes l
abbrev pub numbers_of : RingTable → List ℕ → Answer
numbers_of t l = answer_by (write_reasons t (length l)) (length (form_of t) ∷ [])

-- the table breaks a ring rule
module _ (t : RingTable) (l : List ℕ) (v : Bool) (e : v ≡ meets_rules t) (h : not v ≡ true) where
  pub broken : Err BrokenRule ≡ written_of t (length l)
  unfolding written_of
  broken = rw (← e, not-true v h)

  pub broken_kept : l ≡ bytes_after t l
  unfolding bytes_after
  broken_kept = rw (← e, not-true v h)

  pub broken_number : refusal 22 ≡ numbers_of t l
  broken_number = rw (← e, not-true v h)

-- it meets them
module _ (t : RingTable) (l : List ℕ) (m : meets_rules t ≡ true) where
  module _ (n : ℕ) (g : n ≡ length (form_of t)) where
    -- the buffer is shorter than the form
    module _ (k : length l < n) where
      less : ltb (length l) (length (form_of t)) ≡ true
      less = lt-ltb (length l) (length (form_of t)) (omega arith)

      pub short : Err ShortBuffer ≡ written_of t (length l)
      unfolding written_of
      short = rw (m, less)

      pub short_kept : l ≡ bytes_after t l
      unfolding bytes_after
      short_kept = rw (m, less)

      pub short_number : refusal 21 ≡ numbers_of t l
      short_number = rw (m, less)

    -- it is not
    module _ (k : n ≤ length l) where
      enough : ltb (length l) (length (form_of t)) ≡ false
      enough = le-ltb (length l) (length (form_of t)) (omega arith)

      pub form_room_lem : Room l 0 (form_of t)
      form_room_lem = record { fits = omega arith }

      pub written : Ok n ≡ written_of t (length l)
      unfolding written_of
      written = rw (m, enough, g)

      pub form_over : (l1 : List ℕ) (i : ℕ) → Put l 0 (form_of t) l1 i → l1 ≡ bytes_after t l
      unfolding bytes_after
      form_over l1 i q =
          let w : sets l 0 (form_of t) ≡ [] ++ form_of t ++ drop (0 + length (form_of t)) l = sets-eq (form_of t) l 0 (omega arith) in
          rw (m, enough) (q.is ∙ w ∙ rw zero-add)

      pub written_number : done (n ∷ []) ≡ numbers_of t l
      written_number = rw (m, enough, g)

pub ruleset broken_rules = (broken, broken_kept, broken_number, said, not-false)

pub ruleset answer_rules = (few_nodes, short, short_kept, short_number, form_room_lem, written, form_over, written_number)
