-- The first channel that holds a number is at the place where that stands. Assumes nothing.
use Prim.Native.Nat.{ℕ, suc, ◌+◌, ◌≤◌, ◌<◌}
use mathlib.Core.Path.{◌≡◌, refl}
use mathlib.Core.Bool.{Bool, true, false, not, cond}
use native.Mathlib.Omega.{arith}
use mathlib.Core.List.{[], ◌∷◌}
use lib.Dec.{ltb}
use lib.ListN.{length}
use borrow.Author.Tests.{ltb-true, ltb-false}
use Rattle.std.specs.Prelude.{Some, None, MatchOption}
use Rattle.std.specs.List.{position, position_or_len}
use Rattle.basis.specs.Choice.{pick}
use Rattle.basis.specs.Search.{first_below}
use Rattle.limits.specs.Limits.{place_count}
use Rattle.slots.specs.Slot.{holds}
use Rattle.channels.specs.Channels.{Channels, at, where_is}

-- the place, or as many as there are channels where none holds the number
found_first : (t : Channels) (n : ℕ) → position_or_len (λ ch. holds n ch.slot) t ≡ first_below (length t) (λ p. holds n (at t p))
found_first [] n = refl
found_first (ch ∷ t) n = go (holds n ch.slot) (found_first t n)
  where
    go : (b : Bool) → position_or_len (λ ch. holds n ch.slot) t ≡ first_below (length t) (λ p. holds n (at t p))
        → cond (not b) (1 + position_or_len (λ ch. holds n ch.slot) t) 0 ≡ pick b 0 (suc (first_below (length t) (λ p. holds n (at t p))))
    go true e = refl
    go false e = omega arith

-- Law: the position of the channel that holds a number is its place, if it has one
pub found_at : (t : Channels) (n : ℕ) → length t ≡ place_count
    → MatchOption (position (λ ch. holds n ch.slot) t) (place_count ≤ where_is t n) (λ p. (p ≡ where_is t n) × (p < place_count))
found_at t n long = rw (found_first t n, long) (go (ltb (where_is t n) place_count) refl)
  where
    go : (b : Bool) → ltb (where_is t n) place_count ≡ b
        → MatchOption (cond b (Some (where_is t n)) None) (place_count ≤ where_is t n) (λ p. (p ≡ where_is t n) × (p < place_count))
    go true e = (refl, ltb-true _ _ e)
    go false e = ltb-false _ _ e
