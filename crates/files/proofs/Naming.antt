-- A write that fails promises nothing of its path; so many of some bytes are their beginning. Assumes nothing.
use Prim.Native.Nat.{ℕ, ◌≤◌}
use mathlib.Core.Path.{◌≡◌, sym, ◌∙◌}
use mathlib.Core.Bool.{true, false}
use mathlib.Core.List.{List}
use native.Mathlib.Omega.{arith}
use lib.ListN.{length}
use lib.Seq.{length-take-le}
use Rattle.std.specs.Counts.{IsPrefixLen}
use Rattle.files.specs.Files.{IsPath}

no : {A : Type 0} → false ≡ true → A
no e = let z : ◌≡◌ {A = ℕ} 0 1 = cc in absurd (omega arith)

pub not_written_lem : (path : List ℕ) → false ≡ true → IsPath path
not_written_lem path e = no e

pub counts : (n : ℕ) (bytes : List ℕ) → n ≤ length bytes → IsPrefixLen n bytes
counts n bytes l = (l, sym (length-take-le n bytes l))
