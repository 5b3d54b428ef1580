-- How many lightpaths use a link, from the test of each: those of a place, then those of the wavelengths below a bound. Assumes nothing.
use Prim.Native.Nat.{ℕ, ◌+◌, ◌*◌, ◌≤◌, ◌<◌}
use mathlib.Core.Path.{◌≡◌, refl}
use mathlib.Core.Bool.{Bool, true}
use mathlib.Core.List.{List, ◌++◌}
use native.Mathlib.Numerals.{add-one}
use native.Mathlib.Omega.{arith}
use mir.Syntax.{w8}
use mir.Val.{bool_byte, Fits}
use Rattle.basis.specs.Choice.{bit}
use Rattle.basis.proofs.Bools.{byte_bit}
use Rattle.basis.proofs.Weigh.{weigh_append, bit_most}
use Rattle.limits.specs.Limits.{most_wavelengths, most_nodes}
use Rattle.lightpath.specs.Place.{place_of}
use Rattle.lightpath.specs.Circuit.{uses, users}
use Rattle.lightpath.specs.declared.Circuit.{Circuit}
use Rattle.lightpath.specs.declared.Direction.{Direction}
use Rattle.slots.specs.Slot.{held}
use Rattle.slots.specs.declared.Slot.{Slot}
use Rattle.slots.specs.declared.Slot.TheVariants.{Alone as alone, Shared as shared}
use Rattle.slots.proofs.Contents.{held_most}
use Rattle.channels.specs.Channels.{Channels, at}
use Rattle.lightpath.specs.declared.Direction.TheVariants.{Clockwise as clockwise, Counterclockwise as counterclockwise}
use Rattle.ring.specs.Table.{meets_rules}
use Rattle.ring.specs.declared.RingTable.{RingTable}
use Rattle.ring.proofs.TableRules.{few_nodes}
use Rattle.load.specs.Walk.{pairs_to}
use Rattle.load.proofs.Filled.{loads_pairs}
use Rattle.load.specs.Load.{lightpaths_below, link_load, loads}

module _ (N : ℕ) (d : Direction) (l : ℕ) (s : Slot) where
  -- one circuit
  pub counts_one : (a : Circuit) (x : Bool) → s ≡ alone a → x ≡ uses N d a l → bool_byte x ≡ users N d l (held s)
  unfolding users
  counts_one a x e u = rw (e, ← u) (omega (arith, byte_bit x))

  -- two
  pub counts_two : (a b : Circuit) (x y : Bool) → s ≡ shared a b → x ≡ uses N d a l → y ≡ uses N d b l
      → bool_byte x + bool_byte y ≡ users N d l (held s)
  unfolding users
  counts_two a b x y e u v = rw (e, ← u, ← v) (omega (arith, byte_bit x, byte_bit y))

  -- they are no more
  counts_most : users N d l (held s) ≤ 2
  unfolding users
  counts_most = held_most (λ c. bit (uses N d c l)) (λ c. bit_most (uses N d c l)) s

-- two tests added fit in a byte
pub counts_fit : (x y : Bool) → Fits w8 (bool_byte x + bool_byte y)
counts_fit x y = record { fits = omega (arith, byte_bit x, bit_most x, byte_bit y, bit_most y) }

pub ruleset counts = (counts_one, counts_two, counts_fit)

-- n lightpaths of direction d on the wavelengths below w use link l
pub record Counted (N : ℕ) (t : Channels) (d : Direction) (l w n : ℕ) : Type 0 where
  pub below : w ≤ most_wavelengths
  pub number : n ≡ users N d l (lightpaths_below w t d)
  pub most : n ≤ 2 * w

module _ (N : ℕ) (t : Channels) (d : Direction) (l : ℕ) where
  -- none is counted
  pub count_start : Counted N t d l 0 0
  unfolding users lightpaths_below
  count_start = record { below = omega arith; number = refl; most = omega arith }

  -- those of one more wavelength
  module _ (w n k : ℕ) (h : Counted N t d l w n) (i : w < most_wavelengths) (e : k ≡ users N d l (held (at t (place_of w d)))) where
    pub count_fits : Fits w8 (n + k)
    count_fits = record { fits = omega (arith, h.most, counts_most N d l (at t (place_of w d))) }

    pub count_next : Counted N t d l (w + 1) (n + k)
    unfolding users lightpaths_below
    count_next = record {
      below = omega arith;
      number = rw add-one (omega (arith, h.number, weigh_append (λ c. bit (uses N d c l)) (lightpaths_below w t d) (held (at t (place_of w d)))));
      most = omega (arith, h.most, counts_most N d l (at t (place_of w d)));
    }

  -- all are counted
  pub count_end : (w n : ℕ) → Counted N t d l w n → most_wavelengths ≤ w → n ≡ link_load N t d l
  count_end w n h i = let e : w ≡ most_wavelengths = omega arith in rw e at h.number

pub ruleset counting = (count_start, count_fits, count_next, count_end)

-- the loads of all links are written
pub loads_written : (N : ℕ) (t : Channels) (after rest : List ℕ)
    → after ≡ pairs_to N (λ l. link_load N t clockwise l) (λ l. link_load N t counterclockwise l) ++ rest → after ≡ loads N t ++ rest
loads_written N t after rest e = rw (loads_pairs N N t) e

-- the loads of a table are at most those of the largest ring
pub loads_few : (t : RingTable) → meets_rules t ≡ true → 2 * t.nodes ≤ 2 * most_nodes
loads_few t meets = omega (arith, few_nodes t meets)

-- a buffer that has room for those has room for these
pub loads_fit : (t : RingTable) (n m : ℕ) → meets_rules t ≡ true → n ≡ m → 2 * most_nodes ≤ m → 2 * t.nodes ≤ n
loads_fit t n m meets e h = omega (arith, loads_few t meets)
