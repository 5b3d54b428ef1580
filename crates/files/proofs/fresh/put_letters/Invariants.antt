-- What is left to put stands within the name, as many bytes as were put before its end, and what stands before it is as it was.
use Rattle.std.proofs.Common.{ℕ, ◌+◌, ◌<◌, ◌≤◌, ◌≡◌, length, get_or}
use Rattle.files.proofs.fresh.put_letters.Given as goal

abbrev pub invariant-loop-byte : goal.invariant-loop-byte
invariant-loop-byte l = record {
  within : l.at ≤ length l.name;
  put : length l.name ≤ l.at + l.byte-index;
  kept : (k : ℕ) → k < l.at → get_or l.name k 0 ≡ get_or l.fn.name k 0;
}
