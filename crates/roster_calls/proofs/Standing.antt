-- A roster that stands holds its table, and lists that hold a table are its roster, which stands. Assumes nothing.
use Prim.Native.Nat.{ℕ}
use mathlib.Core.Path.{◌≡◌, refl, sym, ap, subst, ◌∙◌}
use mathlib.Core.Bool.{Bool, true, false, not}
use mathlib.Core.List.{List}
use borrow.Author.Tests.{not-true, not-false}
use Rattle.ring.specs.declared.RingTable.{RingTable}
use Rattle.roster.specs.declared.Heading.{Heading}
use Rattle.roster.specs.declared.Roster.{Roster}
use Rattle.roster.specs.Roster.{arranged, table_of, stands}
use Rattle.roster.specs.Held.{Holds, table_in, HoldsTable}
use Rattle.roster.proofs.Arranged.{arranged_holds, there_and_back_lem, back_and_there, stands_rules, table_typed, arranged_stands}

module _ (r : Roster) (s : stands r ≡ true) where
  -- the lists of a roster that stands hold its table
  pub roster_holds : HoldsTable (table_in r.heading r.keys r.rests) r.heading r.keys r.rests
  unfolding table_of
  roster_holds = record {
    nodes = refl;
    ports = refl;
    holds =
        subst (λ (u : Roster). Holds r.heading.nodes r.heading.ports (table_of r).channels u.keys u.rests u.heading.count) (back_and_there r s)
        (arranged_holds (table_of r) (stands_rules r s) (table_typed r));
  }

  -- two that stand are equal where their tables are
  pub stands_same : (u : Roster) → stands u ≡ true → table_of u ≡ table_of r → u ≡ r
  stands_same u h e = sym (back_and_there u h) ∙ ap arranged e ∙ back_and_there r s

module _ (t : RingTable) (h : Heading) (keys rests : List ℕ) (H : HoldsTable t h keys rests) where
  -- the roster of lists that hold a table is the table's
  pub held_arranged : record { keys = keys; rests = rests; heading = h } ≡ arranged t
  unfolding arranged
  held_arranged = λ i. record {
    keys = H.holds.keyed i;
    rests = H.holds.rested i;
    heading = record { ports = H.ports i; nodes = H.nodes i; count = H.holds.counted i };
  }

  -- it stands, and gives the table back
  pub held_stands : (stands (record { keys = keys; rests = rests; heading = h }) ≡ true) × (table_of (record { keys = keys; rests = rests; heading = h }) ≡ t)
  held_stands = rw held_arranged (arranged_stands t H.holds.rules H.holds.typed, there_and_back_lem t H.holds.rules H.holds.typed)

-- one that was found to stand, and one that was found not to
pub tested : (r : Roster) (b : Bool) → b ≡ stands r → not b ≡ false → stands r ≡ true
tested r b is h = sym is ∙ not-false b h

pub untested : (r : Roster) (b : Bool) → b ≡ stands r → not b ≡ true → stands r ≡ false
untested r b is h = sym is ∙ not-true b h

-- for `search (rules, standing)`
pub ruleset standing = (roster_holds, tested, untested)
