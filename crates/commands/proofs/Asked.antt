-- What is asked with numbers, where none were read. Assumes nothing.
use Prim.Native.Nat.{ℕ}
use mathlib.Core.Path.{◌≡◌}
use lib.IntN.{ℤ}
use Rattle.std.specs.Prelude.{Option, None}
use Rattle.commands.specs.declared.Command.{Command}
use Rattle.commands.specs.declared.Command.TheVariants.{Desk}
use Rattle.commands.specs.Parsed.{grid_asked, node_asked}

pub grid_none : (asking : ℕ → ℤ → ℕ → Command) (r : Option (ℕ × ℤ × ℕ)) → r ≡ None → grid_asked asking r ≡ Desk
grid_none asking r e = rw e

pub node_none : (asking : ℕ → Command) (r : Option ℕ) → r ≡ None → node_asked asking r ≡ Desk
node_none asking r e = rw e

pub ruleset asked = (grid_none, node_none)
