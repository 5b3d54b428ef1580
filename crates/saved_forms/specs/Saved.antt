-- Saved forms in lent bytes. Assumes nothing. What `form_of` and `read_word` promise.
use Rattle.std.specs.Prelude.{ℕ, ◌≤◌, ◌≡◌, true, false, List, length, take, Option, Some, None}
use Rattle.ring.specs.declared.RingTable.{RingTable}
use Rattle.form.specs.Form.{form_of, longest_form}
use Rattle.planner_lines.specs.Line.{is_form, form_bytes}

-- the form of a table stands in the first n of some bytes
pub record FormIn (t : RingTable) (l : List ℕ) (n : ℕ) : Type 0 where
  pub is : take n l ≡ form_of t
  pub within : n ≤ length l
  pub most : n ≤ longest_form

-- a word was read: it is a form, whose bytes stand in the first of some bytes, or it is none
abbrev pub WordRead : List ℕ → List ℕ → Option ℕ → Type 0
WordRead word l (Some n) = (n ≤ length l) × (is_form word ≡ true) × (take n l ≡ form_bytes word)
WordRead word l None = is_form word ≡ false
