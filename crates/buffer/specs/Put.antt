-- Writing into a lent buffer: what a write leaves, the room that it needs, and the most bytes that it takes. Assumes nothing.
-- What `put_byte` and `put_text` promise, and with them every call that writes lent bytes.
use Rattle.std.specs.Prelude.{ℕ, ◌+◌, ◌≤◌, ◌≡◌, List, length}
use Rattle.std.proofs.lemmas.List.Edits.{sets}

-- of the buffer l, l' has the bytes vs from position at on and is else the same; next is the position after them
pub record Put (l : List ℕ) (at : ℕ) (vs : List ℕ) (l' : List ℕ) (next : ℕ) : Type 0 where
  pub is : l' ≡ sets l at vs
  pub end : next ≡ at + length vs

-- the buffer l has room for the bytes vs from position at on
pub record Room (l : List ℕ) (at : ℕ) (vs : List ℕ) : Type 0 where
  pub fits : at + length vs ≤ length l

-- the bytes were put, and are at most so many
pub record Printed (most : ℕ) (l : List ℕ) (at : ℕ) (text : List ℕ) (l' : List ℕ) (next : ℕ) : Type 0 where
  pub put : Put l at text l' next
  pub short : next ≤ at + most
