-- What stands before the name's last bytes is as it was.
use Rattle.std.proofs.Common.{ℕ, ◌+◌, ◌<◌, ◌≡◌, length, get_or}
use Rattle.files.proofs.fresh.create.Given as goal

abbrev pub invariant-loop : goal.invariant-loop
invariant-loop l = (k : ℕ) → k + 6 < length l.fn.name → get_or l.name k 0 ≡ get_or l.fn.name k 0
