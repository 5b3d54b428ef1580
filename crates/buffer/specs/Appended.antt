-- Text whose layout is free: what is left of the lent bytes is not. Assumes nothing. What printing a picture promises.
use Rattle.std.specs.Prelude.{ℕ, ◌+◌, ◌≤◌, List}
use Rattle.buffer.specs.Put.{Put}

-- of the lent bytes l, l' has some text from position at on, and is else the same; next is the position after it
pub record Extends (l : List ℕ) (at : ℕ) (l' : List ℕ) (next : ℕ) : Type 0 where
  pub text : List ℕ
  pub put : Put l at text l' next

-- and the text takes at most so many bytes
pub record Appended (most : ℕ) (l : List ℕ) (at : ℕ) (l' : List ℕ) (next : ℕ) : Type 0 where
  pub some : Extends l at l' next
  pub short : next ≤ at + most
