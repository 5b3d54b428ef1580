-- Whether the new circuit can join that of an entry, by the tests that the code makes. For `search (rules, joined)`. Assumes nothing.
use Prim.Native.Nat.{ℕ}
use mathlib.Core.Path.{◌≡◌, sym, ◌∙◌}
use mathlib.Core.Bool.{Bool, true, false, not, and-false}
use lib.Dec.{ltb}
use borrow.Author.Tests.{not-true, not-false}
use Rattle.lightpath.specs.Place.{direction_of}
use Rattle.lightpath.specs.Circuit.{adjacent, can_share}
use Rattle.lightpath.specs.declared.Direction.{Direction}
use Rattle.lightpath.specs.declared.Circuit.{Circuit}
use Rattle.lightpath.proofs.Share.{apart_never}
use Rattle.lit_words.specs.Lit.{lit_bit}
use Rattle.lit_words.specs.declared.Lit.{Lit}
use Rattle.channels.specs.declared.Standing.{Standing}
use Rattle.entries.specs.Entry.{entry_of}
use Rattle.roster_survey.specs.Pass.{Nearest, place_in, joinable, nearer}

module _ (N : ℕ) (c : Circuit) (shared : Lit) (key rest : ℕ) where
  pub join_shared : (r : Bool) → r ≡ lit_bit shared (place_in rest) → not r ≡ false → false ≡ joinable N c shared key rest
  unfolding joinable
  join_shared r e h = rw (← e, not-false r h)

  pub join_test : (r a : Bool) (d : Direction) (m : Standing) → r ≡ lit_bit shared (place_in rest) → not r ≡ true → d ≡ direction_of (place_in rest)
      → m ≡ entry_of key rest → a ≡ can_share N d m.circuit c → a ≡ joinable N c shared key rest
  unfolding joinable
  join_test r a d m e h f g q = rw (← e, not-true r h, ← f, ← g) q

  module _ (i : ℕ) (v : Nearest) where
    -- an entry that is not adjacent, stands no lower or cannot be joined changes nothing
    pub nearer_apart : (r : Bool) → r ≡ adjacent (entry_of key rest).circuit c → not r ≡ true → v ≡ nearer N c shared key rest i v
    unfolding joinable
    nearer_apart r e h =
        let none = apart_never N (direction_of (place_in rest)) (entry_of key rest).circuit c (sym e ∙ not-true r h) in
        rw (none, and-false (not (lit_bit shared (place_in rest))), and-false (ltb (place_in rest) v.place))

pub ruleset joined = (join_shared, join_test, nearer_apart)
