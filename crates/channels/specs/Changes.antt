-- Up to three changes by value. Assumes nothing. What `Changes::one`, `two`, `three` and `changed` promise.
use Rattle.std.specs.Prelude.{◌<◌, List, [], ◌∷◌}
use Rattle.limits.specs.Limits.{place_count}
use Rattle.channels.specs.Change.{Change}
pub use Rattle.channels.specs.declared.Changes.{Changes}

-- fewer than three are three of which the last is said again, which changes nothing
abbrev pub one_change : Change → Changes
one_change a = record { first = a; second = a; third = a }

abbrev pub two_changes : Change → Change → Changes
two_changes a b = record { first = a; second = b; third = b }

abbrev pub three_changes : Change → Change → Change → Changes
three_changes a b c = record { first = a; second = b; third = c }

-- their list
abbrev pub in_order : Changes → List Change
in_order chs = chs.first ∷ chs.second ∷ chs.third ∷ []

-- each is of a place that there is
pub record Placed (chs : Changes) : Type 0 where
  pub first : chs.first.place < place_count
  pub second : chs.second.place < place_count
  pub third : chs.third.place < place_count
