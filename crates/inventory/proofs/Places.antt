-- The circuits printed place by place. Assumes nothing.
use Prim.Native.Nat.{ℕ, ◌+◌, ◌*◌, ◌^◌, ◌≤◌, ◌<◌}
use mathlib.Core.Path.{◌≡◌, refl}
use mathlib.Core.List.{List, ◌++◌}
use native.Mathlib.Numerals.{add-one}
use native.Mathlib.Omega.{arith}
use lib.ListN.{length, drop, get_or, drop_of_length-le}
use lib.Seq.{drop-cons}
use Rattle.limits.specs.Limits.{place_count, circuit_room}
use Rattle.lightpath.specs.declared.Circuit.{Circuit}
use Rattle.slots.specs.Slot.{held}
use Rattle.slots.specs.declared.Slot.{Slot}
use Rattle.slots.specs.declared.Slot.TheVariants.{Unlit as unlit, Alone as alone, Shared as shared}
use Rattle.channels.specs.Channels.{Channels, circuits, unlit_channel}
use Rattle.circuit_lists.specs.Gathering.{Gathers}
use Rattle.buffer.specs.Put.{Put, Printed}
use Rattle.buffer.proofs.Put.{put_none, put_put, put_length}
use Rattle.text.specs.Bytes.{bytes}
use Rattle.print.specs.Answers.{piece}
use Rattle.print.specs.Filled.{filled, filled_room}
use Rattle.inventory.specs.Lines.{circuit_line, circuit_line_room, circuit_lines, place_room, place_lines, places_room, circuits_text, circuits_room}

-- the circuits of one place
module _ (l : List ℕ) (at : ℕ) (s : Slot) (place : ℕ) where
  pub slot_none : s ≡ unlit → Printed place_room l at (circuit_lines place (held s)) l at
  unfolding circuit_lines
  slot_none h = rw h (record { put = put_none; short = omega arith })

  pub slot_one : (a : Circuit) (l1 : List ℕ) (i : ℕ) → s ≡ alone a → Printed circuit_line_room l at (circuit_line place a) l1 i
      → Printed place_room l at (circuit_lines place (held s)) l1 i
  unfolding circuit_lines
  slot_one a l1 i h p = rw h (record { put = put_put p.put put_none; short = omega (arith, p.short) })

  pub slot_two : (a b : Circuit) (l1 : List ℕ) (i : ℕ) (l2 : List ℕ) (j : ℕ) → s ≡ shared a b → Printed circuit_line_room l at (circuit_line place a) l1 i
      → Printed circuit_line_room l1 i (circuit_line place b) l2 j → Printed place_room l at (circuit_lines place (held s)) l2 j
  unfolding circuit_lines
  slot_two a b l1 i l2 j h p q =
      rw h (record { put = put_put p.put (put_put q.put put_none); short = omega (arith, p.short, q.short) })

pub ruleset slot = (slot_none, slot_one, slot_two)

-- the places from p on are still to be printed: whatever prints them at this position has printed all
pub record Placing (t : Channels) (l0 : List ℕ) (start : ℕ) (l : List ℕ) (next p : ℕ) : Type 0 where
  pub rest : (l' : List ℕ) (e : ℕ) → Put l next (place_lines p (drop p t)) l' e → Put l0 start (place_lines 0 t) l' e
  pub short : next ≤ start + place_room * p
  pub within : p ≤ place_count
  pub space : start + places_room ≤ length l0
  pub long : length l ≡ length l0
  pub width : length t ≡ place_count

pub place_none : (t : Channels) (l : List ℕ) (start : ℕ) → start + places_room ≤ length l → length t ≡ place_count → Placing t l start l start 0
place_none t l start h w = record { rest = λ l' e q. q; short = omega arith; within = omega arith; space = h; long = refl; width = w }

module _ (t : Channels) (l0 : List ℕ) (start : ℕ) (l : List ℕ) (next p : ℕ) (q : Placing t l0 start l next p) where
  pub place_kept : length l ≡ length l0
  place_kept = q.long

  pub place_all : place_count ≤ p → Printed places_room l0 start (place_lines 0 t) l next
  unfolding place_lines
  place_all h =
      let w : length t ≤ p = omega (arith, q.width) in
      record { put = q.rest l next (rw (drop_of_length-le t w) put_none); short = omega (arith, q.short, q.within) }

  module _ (h : p < place_count) where
    pub place_room_lem : next + place_room ≤ length l
    place_room_lem = omega (arith, q.short, q.space, q.long)

    apart : place_lines p (drop p t) ≡ circuit_lines p (held (get_or t p unlit_channel).slot) ++ place_lines (p + 1) (drop (p + 1) t)
    unfolding place_lines
    apart = let w : p < length t = omega (arith, q.width) in rw (drop-cons t p unlit_channel, add-one p)

    pub place_next : (l1 : List ℕ) (j : ℕ) → Printed place_room l next (circuit_lines p (held (get_or t p unlit_channel).slot)) l1 j → Placing t l0 start l1 j (p + 1)
    place_next l1 j r =
        record {
          rest = λ l' e s. q.rest l' e (rw apart (put_put r.put s));
          short = omega (arith, q.short, r.short);
          within = omega arith;
          space = q.space;
          long = omega (arith, put_length r.put, q.long);
          width = q.width;
        }

pub ruleset placing = (place_none, place_kept, place_all, place_room_lem, place_next)

-- the count, then the places
module _ (t : Channels) (array : List Circuit) (n : ℕ) (g : Gathers circuit_room array n (circuits t)) where
  pub count_small : n < 2 ^ 32
  count_small = omega (arith, g.fits)

  pub circuits_put : (l : List ℕ) (at : ℕ) (l1 : List ℕ) (i : ℕ) (l2 : List ℕ) (j : ℕ) → Printed (filled_room (bytes "circuits #\n")) l at (filled (bytes "circuits #\n") n 0 0 0) l1 i
      → Printed places_room l1 i (place_lines 0 t) l2 j → Printed circuits_room l at (circuits_text t) l2 j
  unfolding filled piece circuits_text
  circuits_put l at l1 i l2 j p q = record { put = rw g.counted (put_put p.put q.put); short = omega (arith, p.short, q.short) }

pub ruleset all_circuits = (count_small, circuits_put)
