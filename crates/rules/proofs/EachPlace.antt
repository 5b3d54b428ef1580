-- The rules of each place tested by one loop. Each law takes a callee's answer and the branch's test as
-- they stand in the record of a need, so that `search` finds its premises. Assumes nothing.
use Prim.Native.Nat.{ℕ, ◌≤◌, ◌<◌}
use mathlib.Core.Path.{◌≡◌}
use mathlib.Core.Bool.{Bool, true, false, ◌&&◌}
use Rattle.basis.specs.Search.{every_below}
use Rattle.basis.proofs.Search.{every_and}
use Rattle.basis.proofs.Scan.{Passed, scan_all, scan_fail}
use Rattle.limits.specs.Limits.{place_count}
use Rattle.channels.specs.Channels.{Channels, at}
use Rattle.rules.specs.Rules.{ends, shares, fits}
use Rattle.rules.specs.EachPlace.{places_hold}

module _ (N : ℕ) (t : Channels) where
  -- what all places hold was found to fit
  pub places_all : (i : ℕ) → Passed (λ p. fits N p (at t p)) true i → place_count ≤ i → true ≡ places_hold N t
  unfolding places_hold
  places_all i h l = scan_all (λ p. fits N p (at t p)) place_count i h l

  -- or what one holds was found not to
  pub places_fail : (i : ℕ) (r : Bool) → r ≡ fits N i (at t i) → r ≡ false → i < place_count → false ≡ places_hold N t
  unfolding places_hold
  places_fail i r e h l = scan_fail (λ p. fits N p (at t p)) place_count i r e h l

  -- what is so tested of every place is two of the ring rules
  pub two_rules : places_hold N t ≡ (every_below place_count (λ p. ends N (at t p)) && every_below place_count (λ p. shares N p (at t p)))
  unfolding places_hold
  two_rules = every_and place_count (λ p. ends N (at t p)) (λ p. shares N p (at t p))
