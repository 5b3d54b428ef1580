-- What is read of a command's words after the first. Assumes nothing. Serves proofs inside only.
use Rattle.std.specs.Prelude.{ℕ, ◌<◌, ◌≡◌, List, ℤ, Option, Some, None, length}
use Rattle.commands.specs.declared.Command.{Command}
use Rattle.commands.specs.declared.Command.TheVariants.{Desk}
use Rattle.commands.specs.Command.{last_at}

-- the last word of the line l begins at a position within it, and not at its start
pub record LastWord (l : List ℕ) (ws : List (List ℕ)) (start : ℕ) : Type 0 where
  pub is : last_at l ws ≡ start
  pub some : 0 < start
  pub within : start < length l

-- what is asked of a plan of the grid with three numbers, where they were read
abbrev pub grid_asked : (ℕ → ℤ → ℕ → Command) → Option (ℕ × ℤ × ℕ) → Command
grid_asked asked (Some r) = asked r.0 r.1 r.2
grid_asked asked None = Desk

-- what is asked of a node, where it was read
abbrev pub node_asked : (ℕ → Command) → Option ℕ → Command
node_asked asked (Some node) = asked node
node_asked asked None = Desk
