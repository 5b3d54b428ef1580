-- The lit places of a table, by its two words. Assumes nothing.
use Prim.Native.Nat.{ℕ, ◌+◌, ◌≤◌}
use mathlib.Core.Path.{◌≡◌, refl, sym, ap, ◌∙◌}
use mathlib.Core.Bool.{◌&&◌, not}
use mathlib.Core.List.{[], ◌∷◌}
use native.Mathlib.Omega.{arith}
use lib.ListN.{length}
use Rattle.basis.specs.Choice.{bit}
use Rattle.basis.specs.Count.{count_below}
use Rattle.basis.specs.Search.{first_below}
use Rattle.basis.proofs.Below.{count_same, first_same}
use Rattle.limits.specs.Limits.{place_count}
use Rattle.lightpath.specs.Place.{direction_of, same_direction}
use Rattle.lightpath.specs.declared.Direction.{Direction}
use Rattle.slots.specs.Slot.{is_lit, is_unlit}
use Rattle.slots.proofs.Contents.{unlit_not}
use Rattle.lit_words.specs.Lit.{lit_bit, ones_of}
use Rattle.lit_words.specs.Unlit.{unlit_in}
use Rattle.lit_words.proofs.LitBits.{words_say}
use Rattle.channels.specs.Channels.{Channels, at, lit_places, lit_at, lit_of}

-- Law: the lowest unlit place of a direction below a limit, by the words, is the table's
pub unlit_words : (t : Channels) (d : Direction) (m : ℕ) → m ≤ place_count
    → unlit_in (lit_of t) d m ≡ first_below m (λ p. is_unlit (at t p) && same_direction (direction_of p) d)
unfolding unlit_in
unlit_words t d m l =
    first_same m (λ p. not (lit_bit (lit_of t) p) && same_direction (direction_of p) d) (λ p. is_unlit (at t p) && same_direction (direction_of p) d)
    (λ p h. ap (λ b. b && same_direction (direction_of p) d) (ap not (words_say (lit_at t) p (omega arith)) ∙ unlit_not (at t p)))

-- the lit places, counted by place
lit_all : (t : Channels) → count_below (length t) (lit_at t) ≡ lit_places t
lit_all [] = refl
lit_all (ch ∷ t) = ap (λ (n : ℕ). bit (is_lit ch.slot) + n) (lit_all t)

-- Law: the words count the lit places of the table
pub lit_places_lem : (t : Channels) → length t ≡ place_count → ones_of (lit_of t) ≡ lit_places t
unfolding ones_of
lit_places_lem t e = count_same place_count (lit_bit (lit_of t)) (lit_at t) (words_say (lit_at t)) ∙ ap (λ (n : ℕ). count_below n (lit_at t)) (sym e) ∙ lit_all t
