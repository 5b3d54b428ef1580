-- The line of a tidying, from its words with the numbers put in. Assumes nothing.
use Prim.Native.Nat.{ℕ}
use mathlib.Core.Path.{◌≡◌}
use mathlib.Core.List.{List}
use native.Mathlib.Omega.{arith}
use Rattle.refusals.specs.Refusal.{number_of}
use Rattle.refusals.specs.declared.Refusal.{Refusal}
use Rattle.buffer.specs.Put.{Printed}
use Rattle.text.specs.Bytes.{bytes}
use Rattle.print.specs.Answers.{piece}
use Rattle.print.specs.Filled.{filled, filled_room}
use Rattle.tidy_lines.specs.Lines.{tidy_line, tidy_line_room}
use Rattle.ring.specs.Tidying.{Tidying}
use Rattle.std.specs.Prelude.{Err, Ok}

module _ (l l' : List ℕ) (at e : ℕ) (a : Tidying) where
  pub tidy_done : (rounds moves : ℕ) → a ≡ Ok (record { rounds = rounds; moves = moves }) → Printed tidy_line_room l at (filled (bytes "tidy rounds # moves #\n") rounds moves 0 0) l' e
      → Printed tidy_line_room l at (tidy_line a) l' e
  unfolding filled piece
  tidy_done rounds moves h p = rw h p

  pub tidy_refused : (r : Refusal) → a ≡ Err r → Printed (filled_room (bytes "tidy refused #\n")) l at (filled (bytes "tidy refused #\n") (number_of r) 0 0 0) l' e
      → Printed tidy_line_room l at (tidy_line a) l' e
  unfolding filled piece
  tidy_refused r h p = record { put = rw h p.put; short = omega (arith, p.short) }

pub ruleset lines = (tidy_done, tidy_refused)
