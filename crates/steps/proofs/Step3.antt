-- Where step 2 finds no place, the paper's two claims hold: step 3 finds an adjacent pair, and each direction has a nonsharing circuit.
-- Assumes nothing.
use Prim.Native.Nat.{ℕ, ◌*◌, ◌<◌}
use mathlib.Core.Path.{◌≡◌}
use mathlib.Core.Bool.{false}
use mathlib.Core.List.{List}
use native.Mathlib.Omega.{arith}
use lib.ListN.{length, take}
use Rattle.basis.specs.Search.{pairs_of}
use Rattle.lightpath.specs.Place.{place_of}
use Rattle.lightpath.specs.declared.Direction.{Direction}
use Rattle.lightpath.specs.declared.Direction.TheVariants.{Clockwise as clockwise, Counterclockwise as counterclockwise}
use Rattle.lightpath.specs.declared.Circuit.{Circuit}
use Rattle.lightpath.proofs.Places.{direction_place}
use Rattle.slots.specs.Slot.{is_unlit, is_alone}
use Rattle.channels.specs.Channels.{Channels, at, slots}
use Rattle.channels.proofs.Nonsharing.{below_at}
use Rattle.ports.specs.Ports.{limit_of, wavelengths}
use Rattle.rules.specs.Allowable.{Allowable}
use Rattle.rules.proofs.Rules.{Rules, limits_hold}
use Rattle.rules.proofs.Pair.{pair_exists}
use Rattle.rules.proofs.Lane.{alone_exists}
use Rattle.rules.proofs.Full.{table_full}
use Rattle.steps.specs.Steps.{newcomer, candidates, passed, lowest_alone}
use Rattle.steps.specs.Ready.{Ready}
use Rattle.steps.proofs.Searches.{lowest_found}
use Rattle.steps.proofs.ShorterWay.{none_unlit}

-- the places of the wavelengths below W are those below 2 × W
place_low : (w W : ℕ) (d : Direction) → w < W → place_of w d < 2 * W
place_low w W clockwise l = omega arith
place_low w W counterclockwise l = omega arith

module _ (N : ℕ) (ks : List ℕ) (t : Channels) (c : Circuit) (rules : Rules N ks t) (may : Allowable N ks t c)
    (lit : (p : ℕ) → p < limit_of ks → is_unlit (at t p) ≡ false) where
  -- the search finds an adjacent pair
  pair_found : passed (limit_of ks) t c < length (pairs_of (candidates (limit_of ks) t c))
  pair_found = pair_exists ks (take (limit_of ks) (slots t)) (newcomer c) (table_full N ks t c rules may lit)

  -- each direction has a nonsharing circuit
  lane_found : (d : Direction) → lowest_alone (limit_of ks) t d < limit_of ks
  lane_found d =
      let k = limits_hold N ks t rules in
      let x = alone_exists ks (take (limit_of ks) (slots t)) c (table_full N ks t c rules may lit) d in
      let l = place_low x.0 (wavelengths ks) d x.1 in
      lowest_found is_alone (limit_of ks) t d (place_of x.0 d) l (direction_place x.0 d)
      (rw (← below_at (limit_of ks) t (omega arith) (place_of x.0 d) l) x.2)

-- so a table that meets the ring rules is ready for whatever request its ports permit
pub ready : (N : ℕ) (ks : List ℕ) (t : Channels) (c : Circuit) → Rules N ks t → Allowable N ks t c → Ready N (limit_of ks) t c
ready N ks t c rules may =
    let k = limits_hold N ks t rules in
    record {
      nodes = omega arith;
      low = k.below;
      pair = λ j u. pair_found N ks t c rules may (none_unlit N (limit_of ks) t c u);
      lane = λ j u. lane_found N ks t c rules may (none_unlit N (limit_of ks) t c u);
    }
