-- The search for the next round of a tidying: what it counts on, and what it finds. Assumes nothing. Serves proofs inside only.
use Rattle.std.specs.Prelude.{ℕ, ◌<◌, ◌≡◌, false, Some, is_some}
use Rattle.slots.specs.declared.Slot.TheVariants.{Alone as alone}
use Rattle.channels.specs.Channels.{Channels, at}
use Rattle.channels.specs.declared.Standing.{Standing}
use Rattle.tidying.specs.Round.{can_round, round_pair}
use Rattle.rounds.specs.Room.{Room, room_of}
use Rattle.rounds.specs.Search.{Hit, joinable_in}
pub use Rattle.rounds.specs.declared.Next.{Next}

-- a circuit is alone at a place below m
abbrev pub Lone : ℕ → Channels → Standing → Type 0
Lone m t s = (s.place < m) × (at t s.place ≡ alone s.circuit)

-- no two circuits alone below m, the first of them below a place, can be joined by the unlit places that there are in a room
pub record PassedBy (N m : ℕ) (t : Channels) (room : Room) (from : ℕ) : Type 0 where
  pub none : (a b : Standing) → Lone m t a → Lone m t b → a.place < b.place → a.place < from → joinable_in N m room (a, b) ≡ false

-- what is found: whether there is a round, its pair, and the room; and no pair before its row can be joined by that
pub record Finds (N m : ℕ) (t : Channels) (r : Next) : Type 0 where
  pub room : r.room ≡ room_of m t
  pub found : is_some r.hit ≡ can_round N m t
  pub first : (hit : Hit) → r.hit ≡ Some hit → hit.first ≡ (round_pair N m t).0
  pub second : (hit : Hit) → r.hit ≡ Some hit → hit.second ≡ (round_pair N m t).1
  pub passed : (hit : Hit) → r.hit ≡ Some hit → PassedBy N m t r.room hit.first.place
