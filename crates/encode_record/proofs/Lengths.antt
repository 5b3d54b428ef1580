-- The length of a record. Assumes nothing.
use Prim.Native.Nat.{ℕ, ◌+◌}
use mathlib.Core.Path.{◌≡◌, sym}
use mathlib.Core.List.{List, ◌∷◌, ◌++◌}
use native.Mathlib.Omega.{arith}
use lib.ListN.{length, length-append}
use borrow.Author.Tests.{eq-eqb, ne_eqb}
use Rattle.basis.specs.Choice.{bit}
use Rattle.lightpath.specs.declared.Circuit.{Circuit}
use Rattle.slots.specs.declared.Slot.{Slot}
use Rattle.slots.specs.declared.Slot.TheVariants.{Unlit as unlit, Alone as alone, Shared as shared}
use Rattle.slots.specs.Slot.{is_lit}
use Rattle.form.specs.Bytes.{high_first}
use Rattle.form.specs.Form.{optional_bytes, number_width, remark_width, account_width, circuit_bytes, record_bytes}
use Rattle.form.proofs.Numbers.{high_long}

-- an optional field takes no byte, or as many as it is wide
pub none_long : (width v : ℕ) → v ≡ 0 → 0 ≡ length (optional_bytes width v)
unfolding optional_bytes
none_long width v h = rw (eq-eqb v 0 h)

pub there_long : (width v : ℕ) → (v ≡ 0 → ⊥) → width ≡ length (optional_bytes width v)
unfolding optional_bytes
there_long width v h = rw (ne_eqb v 0 h) (sym (high_long width v))

pub ruleset optional_lengths = (none_long, there_long)

-- a circuit takes six bytes, and those of its optional fields
pub circuit_long : (c : Circuit) (v n m : ℕ) → v ≡ c.remark → n ≡ length (optional_bytes remark_width v) → m ≡ length (optional_bytes account_width c.account)
    → 6 + n + m ≡ length (circuit_bytes c)
unfolding circuit_bytes
circuit_long c v n m k e g =
    let number : List ℕ = high_first number_width c.number in
    let remark : List ℕ = optional_bytes remark_width c.remark in
    let account : List ℕ = optional_bytes account_width c.account in
    let f : n ≡ length remark = rw k at e in
    omega (
      arith,
      length-append number (c.source ∷ c.destination ∷ (remark ++ account)),
      length-append remark account,
      high_long number_width c.number,
    )

-- a record takes a byte more than its circuits, and an unlit place none
pub unlit_long : (s : Slot) → s ≡ unlit → 0 + bit (is_lit s) ≡ length (record_bytes s)
unfolding record_bytes
unlit_long s e = rw e

pub alone_long : (s : Slot) (a : Circuit) (n : ℕ) → s ≡ alone a → n ≡ length (circuit_bytes a) → n + bit (is_lit s) ≡ length (record_bytes s)
unfolding record_bytes
alone_long s a n e g = rw e (omega arith)

pub shared_long : (s : Slot) (a b : Circuit) (n m : ℕ) → s ≡ shared a b → n ≡ length (circuit_bytes a) → m ≡ length (circuit_bytes b)
    → n + m + bit (is_lit s) ≡ length (record_bytes s)
unfolding record_bytes
shared_long s a b n m e g h = rw e (omega (arith, length-append (circuit_bytes a) (circuit_bytes b)))

pub ruleset lengths = (unlit_long, alone_long, shared_long)
