-- What the reader finds at a position of the form b: the field and the bytes after it, or the refusal. Assumes nothing.
-- `FieldAt` is what `read_place` promises; the other serves proofs inside only.
use Rattle.std.specs.Prelude.{ℕ, ◌^◌, ◌≤◌, ◌<◌, ◌≡◌, List, length, drop, Result, Ok, Err}
use Rattle.refusals.specs.declared.Refusal.{Refusal}
use Rattle.form.specs.Reader.{Field, got, fault}

-- of an optional field, a circuit and what a place holds: the value and the position after it
abbrev pub OptionalAt : ℕ → List ℕ → Result (ℕ × ℕ) Refusal → Field ℕ → Type 0
OptionalAt width b (Ok r) f = (r.1 ≤ length b) × (r.0 < 256 ^ width) × (f ≡ got r.0 (drop r.1 b))
OptionalAt width b (Err r) f = f ≡ fault r

abbrev pub FieldAt : {A : Type 0} → List ℕ → Result (A × ℕ) Refusal → Field A → Type 0
FieldAt b (Ok r) f = (r.1 ≤ length b) × (f ≡ got r.0 (drop r.1 b))
FieldAt b (Err r) f = f ≡ fault r
