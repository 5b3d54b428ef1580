-- `decode::places::read_records` meets its contract: the records of the places before this one are read into the channels, and the next is at `at`. Assumes nothing.
use Prim.Native.Nat.{◌-◌, ◌≤◌}
use Rattle.limits.specs.Limits.{place_count}
use Rattle.lit_words.specs.Lit.{lit_bit}
use Rattle.decode.proofs.Listing.{Listing}
use Rattle.decode.proofs.places.read_records.Given as goal

abbrev pub invariant-loop-place : goal.invariant-loop-place
invariant-loop-place l = (l.place ≤ place_count) × Listing (lit_bit l.lit) l.form l.start l.place l.channels l.at

abbrev pub decreases-loop-place : goal.decreases-loop-place
decreases-loop-place l = place_count - l.place
