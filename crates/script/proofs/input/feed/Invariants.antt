-- `script::input::feed` meets its contract. The loop's invariant: of the chunk the first i bytes are taken in, and what they print stands in the
-- lent bytes up to `at`. Assumes nothing.
use Rattle.desk.specs.Desk.{desk_of}
use Rattle.script.proofs.Feeding.{Feeding, script_at}
use Rattle.script.proofs.input.feed.Given as goal

abbrev pub invariant-loop-byte : goal.invariant-loop-byte
invariant-loop-byte l = Feeding (script_at (desk_of l.initial.desk l.initial.keys l.initial.rests) l.initial.line l.initial.held) l.chunk l.initial.out l.keys l.rests l.desk l.line l.held l.out l.at l.byte-index
