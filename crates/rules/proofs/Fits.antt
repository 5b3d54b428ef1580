-- What stands at a place where it fits: its circuits are on the ring, and two of them share there. Assumes nothing.
use Prim.Native.Nat.{ℕ, ◌≤◌, ◌<◌, zero-le}
use mathlib.Core.Path.{◌≡◌, refl}
use mathlib.Core.Logic.{◌≢◌}
use mathlib.Core.Bool.{Bool, true, false}
use mathlib.Core.List.{List}
use native.Mathlib.Decide.{dec_lt}
use native.Mathlib.Omega.{arith}
use lib.Dec.{eqb, ltb}
use borrow.Author.Tests.{ltb-true, ltb-false, lt-ltb}
use Rattle.basis.specs.Choice.{pick}
use Rattle.basis.proofs.Bools.{and_left, and_right, and_both}
use Rattle.basis.proofs.Weigh.{bit_most}
use Rattle.limits.specs.Limits.{place_count}
use Rattle.lightpath.specs.Place.{direction_of}
use Rattle.lightpath.specs.Circuit.{joins, uses, users, can_share}
use Rattle.lightpath.specs.declared.Circuit.{Circuit}
use Rattle.lightpath.proofs.Share.{can_swap, share_links}
use Rattle.slots.specs.Slot.{held, together, without}
use Rattle.slots.specs.declared.Slot.{Slot}
use Rattle.slots.specs.declared.Slot.TheVariants.{Unlit as unlit, Alone as alone, Shared as shared}
use Rattle.channels.specs.Channels.{Channels, at}
use Rattle.channels.proofs.Places.{none_there}
use Rattle.rules.specs.Rules.{fits, carried}
use Rattle.rules.proofs.Rules.{Rules, limits_hold}

-- two circuits at place p of a ring of N nodes
pub record Couple (N p : ℕ) (a b : Circuit) : Type 0 where
  pub first : joins N a ≡ true
  pub second : joins N b ≡ true
  pub order : a.number < b.number
  pub can : can_share N (direction_of p) a b ≡ true

module _ (N p : ℕ) where
  -- what the test of two says
  pub couple : (a b : Circuit) → fits N p (shared a b) ≡ true → Couple N p a b
  couple a b h = record {
    first = search (and_left, and_right);
    second = search (and_left, and_right);
    order = ltb-true _ _ (search (and_left, and_right));
    can = search (and_left, and_right);
  }

  -- and back
  couple_fits : (a b : Circuit) → Couple N p a b → fits N p (shared a b) ≡ true
  couple_fits a b k = and_both _ _ (and_both _ _ k.first k.second) (and_both _ _ (lt-ltb _ _ k.order) k.can)

  -- one alone fits anywhere if it is on the ring
  pub alone_fits : (a : Circuit) → joins N a ≡ true → fits N p (alone a) ≡ true
  alone_fits a j = and_both _ _ j refl

  -- and only then
  pub alone_joins : (a : Circuit) → fits N p (alone a) ≡ true → joins N a ≡ true
  alone_joins a h = and_left _ _ h

  -- two that can share fit whichever has the lower number
  pub together_fits : (a b : Circuit) → joins N a ≡ true → joins N b ≡ true → can_share N (direction_of p) a b ≡ true → a.number ≢ b.number
      → fits N p (together a b) ≡ true
  together_fits a b ja jb can n = go (ltb a.number b.number) refl
    where
      go : (o : Bool) → ltb a.number b.number ≡ o → fits N p (pick o (shared a b) (shared b a)) ≡ true
      go true e = couple_fits a b (record { first = ja; second = jb; order = ltb-true _ _ e; can = can })
      go false e =
          couple_fits b a
          (record { first = jb; second = ja; order = omega (arith, ltb-false a.number b.number e, n); can = can_swap N (direction_of p) a b can })

  -- what is left without one of them fits
  pub without_fits : (n : ℕ) (s : Slot) → fits N p s ≡ true → fits N p (without n s) ≡ true
  without_fits n unlit h = refl
  without_fits n (alone a) h = refl
  without_fits n (shared a b) h = go (eqb a.number n)
    where
      go : (o : Bool) → fits N p (pick o (alone b) (alone a)) ≡ true
      go true = alone_fits b (couple a b h).second
      go false = alone_fits a (couple a b h).first

  -- no link carries two of its lightpaths
  fits_links : (s : Slot) (l : ℕ) → fits N p s ≡ true → 1 ≤ l → l ≤ N → users N (direction_of p) l (held s) ≤ 1
  unfolding users
  fits_links unlit l h low high = zero-le
  fits_links (alone a) l h low high = omega (arith, bit_most (uses N (direction_of p) a l))
  fits_links (shared a b) l h low high =
      let k = couple a b h in omega (arith, share_links N (direction_of p) a b l k.can k.first k.second low high)

-- no directed wavelength of a table that meets the rules carries two lightpaths over one link
pub rules_links : (N : ℕ) (ks : List ℕ) (t : Channels) → Rules N ks t → (q l : ℕ) → 1 ≤ l → l ≤ N → carried N t q l ≤ 1
rules_links N ks t rules q l low high = near (dec_lt q place_count)
  where
    near : Dec (q < place_count) → carried N t q l ≤ 1
    near (yes i) = fits_links N q (at t q) l (rules.places q i) low high
    near (no n) = rw (← none_there t place_count q (limits_hold N ks t rules).long (omega arith)) (fits_links N q unlit l refl low high)
