-- `rules::places::places_hold` meets its contract. Assumes nothing.
-- what the places before this one hold fits
use mathlib.Core.Bool.{true}
use Rattle.basis.proofs.Scan.{Passed}
use Rattle.channels.specs.Channels.{at}
use Rattle.rules.specs.Rules.{fits}
use Rattle.rules.proofs.places.places_hold.Given as goal

abbrev pub invariant-loop-place : goal.invariant-loop-place
invariant-loop-place l = Passed (λ p. fits l.nodes p (at l.channel-items p)) true l.place
