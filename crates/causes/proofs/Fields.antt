-- The port fields of a list of port counts are judged as the list is. Assumes nothing.
use Prim.Native.Nat.{ℕ, ◌≤◌, ◌<◌}
use mathlib.Core.Path.{◌≡◌}
use mathlib.Core.Bool.{true, false, not}
use mathlib.Core.List.{List, ◌++◌}
use lib.Dec.{leb}
use lib.ListN.{replicate}
use borrow.Author.Tests.{lt-leb, le-leb}
use Rattle.basis.proofs.Sums.{total_padded}
use Rattle.ports.proofs.Counts.{each_zeros}
use Rattle.refusals.specs.Refusal.{judged}
use Rattle.causes.specs.Causes.{port_causes}

-- zeros behind the counts change no verdict
pub fields_judged : (ks : List ℕ) (n : ℕ) → judged (port_causes (ks ++ replicate n 0)) ≡ judged (port_causes ks)
fields_judged ks n = rw (each_zeros 64 ks n, total_padded ks n)

-- a sum that a call gave is above a limit, or within it
pub above : (r s m : ℕ) → r ≡ s → m < r → not (leb s m) ≡ true
above r s m e h = rw (← e, lt-leb r m h)

pub within : (r s m : ℕ) → r ≡ s → r ≤ m → not (leb s m) ≡ false
within r s m e h = rw (← e, le-leb r m h)
