-- The records written one after the other. Assumes nothing.
use Prim.Native.Nat.{ℕ, ◌+◌, ◌≤◌, ◌<◌}
use mathlib.Core.Path.{◌≡◌, refl, ap}
use mathlib.Core.List.{List, [], ◌∷◌, ◌++◌}
use native.Mathlib.Numerals.{add-one}
use native.Mathlib.Omega.{arith}
use lib.ListN.{length, get_or, drop, drop_of_length-le}
use lib.Seq.{drop-cons}
use Rattle.limits.specs.Limits.{place_count}
use Rattle.slots.specs.declared.Slot.{Slot}
use Rattle.channels.specs.Channels.{Channels, unlit_channel}
use Rattle.buffer.specs.Put.{Room, Put}
use Rattle.buffer.proofs.Chain.{Putting, start, first, again, none, then}
use Rattle.form.specs.Form.{record_bytes, records_bytes}

-- of the records, those of the places from p on are still to be written
pub record Recording (l0 : List ℕ) (i0 : ℕ) (chs : Channels) (p : ℕ) (l : List ℕ) (i : ℕ) : Type 0 where
  pub putting : Putting l0 i0 (records_bytes chs) l i (records_bytes (drop p chs)) []

module _ (l0 : List ℕ) (i0 : ℕ) (chs : Channels) where
  pub recording_none : Room l0 i0 (records_bytes chs) → Recording l0 i0 chs 0 l0 i0
  recording_none h = record { putting = start _ _ refl h }

  module _ (p : ℕ) (l : List ℕ) (i : ℕ) (q : Recording l0 i0 chs p l i) where
    module _ (h : p < length chs) (s : Slot) (e : s ≡ (get_or chs p unlit_channel).slot) where
      one_more : records_bytes (drop p chs) ≡ record_bytes s ++ records_bytes (drop (p + 1) chs)
      unfolding records_bytes
      one_more = rw (add-one, e, drop-cons chs p unlit_channel h)

      more : Putting l0 i0 (records_bytes chs) l i (record_bytes s) (records_bytes (drop (p + 1) chs) ∷ [])
      more = again one_more q.putting

      pub recording_room : Room l i (record_bytes s)
      recording_room = first more

      pub recording_next : (l1 : List ℕ) (n : ℕ) → Put l i (record_bytes s) l1 n → Recording l0 i0 chs (p + 1) l1 n
      recording_next l1 n w = record { putting = then w more }

    pub recording_all : length chs ≡ place_count → place_count ≤ p → Put l0 i0 (records_bytes chs) l i
    unfolding records_bytes
    recording_all e h = let k : length chs ≤ p = omega arith in none (ap records_bytes (drop_of_length-le chs k)) q.putting

pub ruleset recording = (recording_none, recording_room, recording_next, recording_all)
