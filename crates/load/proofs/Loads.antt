-- On a ring that meets the rules no link carries more lightpaths in a direction than there are wavelengths: each of them has its own.
-- Assumes nothing.
use Prim.Native.Nat.{ℕ, zero, suc, ◌+◌, ◌≤◌, ◌<◌, zero-le}
use mathlib.Core.Path.{◌≡◌}
use mathlib.Core.Bool.{true}
use mathlib.Core.List.{List}
use native.Mathlib.Decide.{dec_lt}
use native.Mathlib.Omega.{arith}
use Rattle.basis.specs.Choice.{bit}
use Rattle.basis.specs.Count.{All}
use Rattle.basis.proofs.Bools.{all_join}
use Rattle.basis.proofs.Weigh.{weigh_append}
use Rattle.limits.specs.Limits.{most_wavelengths}
use Rattle.lightpath.specs.Place.{place_of}
use Rattle.lightpath.specs.Circuit.{uses, users}
use Rattle.lightpath.specs.declared.Direction.{Direction}
use Rattle.lightpath.specs.declared.Direction.TheVariants.{Clockwise as clockwise, Counterclockwise as counterclockwise}
use Rattle.lightpath.proofs.Places.{direction_place}
use Rattle.slots.specs.Slot.{held}
use Rattle.channels.specs.Channels.{Channels, at}
use Rattle.ports.specs.Ports.{wavelengths, limit_of}
use Rattle.rules.proofs.Rules.{Rules}
use Rattle.rules.proofs.Unlit.{above_unlit}
use Rattle.rules.proofs.Fits.{rules_links}
use Rattle.ring.specs.Table.{meets_rules}
use Rattle.ring.specs.declared.RingTable.{RingTable}
use Rattle.ring.proofs.TableRules.{table_rules}
use Rattle.load.specs.Load.{lightpaths_below, link_load, loads_to, loads}
use Rattle.load.proofs.NextLink.{place_inside}

-- the lightpaths over link l in direction d
module _ (N : ℕ) (ks : List ℕ) (t : Channels) (rules : Rules N ks t) (d : Direction) (l : ℕ) (low : 1 ≤ l) (high : l ≤ N) where
  -- those of one wavelength, and those of the wavelengths below a bound
  abbrev on : ℕ → ℕ
  on w = users N d l (held (at t (place_of w d)))

  abbrev below : ℕ → ℕ
  below n = users N d l (lightpaths_below n t d)

  -- a wavelength carries at most one
  one_most : (w : ℕ) → on w ≤ 1
  unfolding users
  one_most w = rw (direction_place w d) at (rules_links N ks t rules (place_of w d) l low high)

  -- and none from W up
  none_above : (w : ℕ) → w < most_wavelengths → wavelengths ks ≤ w → on w ≡ 0
  unfolding users
  none_above w i h = rw (above_unlit (limit_of ks) t rules.unused (place_of w d) (place_inside w d i) (above d))
    where
      above : (d : Direction) → limit_of ks ≤ place_of w d
      above clockwise = omega arith
      above counterclockwise = omega arith

  -- one wavelength more
  below_suc : (n : ℕ) → below (suc n) ≡ below n + on n
  unfolding users lightpaths_below
  below_suc n = weigh_append (λ c. bit (uses N d c l)) (lightpaths_below n t d) (held (at t (place_of n d)))

  -- the wavelengths below n carry at most n, and at most W
  below_most : (n : ℕ) → n ≤ most_wavelengths → (below n ≤ n) × (below n ≤ wavelengths ks)
  unfolding users lightpaths_below
  below_most zero i = (zero-le, zero-le)
  below_most (suc n) i = go (dec_lt n (wavelengths ks)) (below_most n (omega arith))
    where
      go : Dec (n < wavelengths ks) → (below n ≤ n) × (below n ≤ wavelengths ks) → (below (suc n) ≤ suc n) × (below (suc n) ≤ wavelengths ks)
      go (yes h) before = (omega (arith, below_suc n, one_most n), omega (arith, below_suc n, one_most n))
      go (no h) before = (omega (arith, below_suc n, one_most n), omega (arith, below_suc n, none_above n i (omega arith)))

  -- each load is at most W
  pub load_most : link_load N t d l ≤ wavelengths ks
  load_most = (below_most most_wavelengths (omega arith)).1

-- Law: each byte of the load report is at most W
pub loads_most : (t : RingTable) → meets_rules t ≡ true → All (λ b. b ≤ wavelengths t.ports) (loads t.nodes t.channels)
unfolding loads_to
loads_most t meets = up_to t.nodes (omega arith)
  where
    most : (d : Direction) (k : ℕ) → suc k ≤ t.nodes → link_load t.nodes t.channels d (suc k) ≤ wavelengths t.ports
    most d k i = load_most t.nodes t.ports t.channels (table_rules t meets) d (suc k) (omega arith) i

    up_to : (k : ℕ) → k ≤ t.nodes → All (λ b. b ≤ wavelengths t.ports) (loads_to k t.nodes t.channels)
    up_to zero i = tt
    up_to (suc k) i =
        all_join (λ b. b ≤ wavelengths t.ports) (loads_to k t.nodes t.channels) _ (up_to k (omega arith))
        (most clockwise k i, (most counterclockwise k i, tt))
