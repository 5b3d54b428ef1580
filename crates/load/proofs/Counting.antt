-- Lightpaths counted at their ends: those of a place, then those of the wavelengths below a bound. Assumes nothing.
use Prim.Native.Nat.{ℕ, zero, suc, ◌+◌, ◌*◌, ◌≤◌, ◌<◌}
use mathlib.Core.Path.{◌≡◌}
use mathlib.Core.Bool.{true}
use mathlib.Core.List.{List, [], ◌∷◌, ◌++◌, append_assoc, append-nil}
use native.Mathlib.Numerals.{add-one}
use native.Mathlib.Omega.{arith}
use lib.Dec.{ltb}
use lib.ListN.{length, replicate, length-append}
use Rattle.basis.specs.Choice.{bit}
use Rattle.basis.specs.Count.{All}
use Rattle.basis.specs.Tallied.{Tallied}
use Rattle.basis.proofs.Bools.{all_map}
use Rattle.basis.proofs.Weigh.{weigh_append, weigh_most, bit_most}
use Rattle.basis.proofs.Tallied.{tallied_start, tallied_low, tallied_next}
use Rattle.limits.specs.Limits.{most_wavelengths}
use Rattle.lightpath.specs.Place.{place_of}
use Rattle.lightpath.specs.Ends.{start_of, stop_of}
use Rattle.lightpath.specs.declared.Circuit.{Circuit}
use Rattle.lightpath.specs.declared.Direction.{Direction}
use Rattle.lightpath.specs.declared.Direction.TheVariants.{Clockwise as clockwise, Counterclockwise as counterclockwise}
use Rattle.slots.specs.Slot.{held}
use Rattle.slots.proofs.Contents.{held_most}
use Rattle.slots.specs.declared.Slot.{Slot}
use Rattle.slots.specs.declared.Slot.TheVariants.{Unlit as unlit, Alone as alone, Shared as shared}
use Rattle.channels.specs.Channels.{Channels, at}
use Rattle.ring.specs.Table.{meets_rules}
use Rattle.ring.specs.declared.RingTable.{RingTable}
use Rattle.ring.proofs.TableRules.{few_nodes}
use Rattle.load.proofs.NextLink.{place_inside, place_on, table_joined}
use Rattle.load.specs.Load.{lightpaths_below}
use Rattle.load.specs.Walk.{node_room, more, counted, over_last, Inside, RoomFor}

-- both ends of a lightpath have a count
start_inside : (d : Direction) (c : Circuit) → Inside c → start_of d c < node_room
start_inside clockwise c i = i.0
start_inside counterclockwise c i = i.1

stop_inside : (d : Direction) (c : Circuit) → Inside c → stop_of d c < node_room
stop_inside clockwise c i = i.1
stop_inside counterclockwise c i = i.0

-- some circuits more are counted
tallied_more : (key : Circuit → ℕ) (xs cs : List Circuit) (counts : List ℕ) → Tallied key xs node_room counts → All (λ c. key c < node_room) cs
    → Tallied key (xs ++ cs) node_room (counted key cs counts)
tallied_more key xs [] counts h l = rw (append-nil xs) h
tallied_more key xs (c ∷ cs) counts h l =
    rw (← append_assoc xs (c ∷ []) cs) (tallied_more key (xs ++ (c ∷ [])) cs (more (key c) counts) (tallied_next key node_room xs counts h c l.0) l.1)

-- the lightpaths of direction d on the wavelengths below w are counted
pub record Reached (t : Channels) (d : Direction) (w : ℕ) (starts stops : List ℕ) (last : ℕ) : Type 0 where
  pub started : Tallied (start_of d) (lightpaths_below w t d) node_room starts
  pub stopped : Tallied (stop_of d) (lightpaths_below w t d) node_room stops
  pub over : last ≡ over_last d (lightpaths_below w t d)

module _ (t : Channels) (d : Direction) where
  -- none is counted
  pub reach_start : (starts stops : List ℕ) (last : ℕ) → starts ≡ replicate node_room 0 → stops ≡ replicate node_room 0 → last ≡ 0 → Reached t d 0 starts stops last
  unfolding lightpaths_below
  reach_start starts stops last f g k = record {
    started = rw f (tallied_start (start_of d) node_room);
    stopped = rw g (tallied_start (stop_of d) node_room);
    over = k;
  }

  -- at most two a wavelength
  pub below_length : (w : ℕ) → length (lightpaths_below w t d) ≤ 2 * w
  unfolding lightpaths_below
  below_length zero = omega arith
  below_length (suc w) = rw (length-append (lightpaths_below w t d) (held (at t (place_of w d)))) (omega (arith, below_length w, held_length (at t (place_of w d))))
    where
      held_length : (s : Slot) → length (held s) ≤ 2
      held_length unlit = omega arith
      held_length (alone a) = omega arith
      held_length (shared a b) = omega arith

  -- and at most as many over link N
  over_most : (cs : List Circuit) → over_last d cs ≤ length cs
  over_most cs = weigh_most _ (λ c. bit_most (ltb (stop_of d c) (start_of d c))) cs

  -- two of a place
  pub over_place : (s : Slot) → over_last d (held s) ≤ 2
  over_place s = held_most _ (λ c. bit_most (ltb (stop_of d c) (start_of d c))) s

  module _ (w : ℕ) (starts stops : List ℕ) (last : ℕ) (h : Reached t d w starts stops last) where
    -- there is room for the next two
    pub reach_room : w < most_wavelengths → RoomFor 2 starts × RoomFor 2 stops × (last + 2 < 256)
    reach_room i = (
      record { room = λ k l. omega (arith, tallied_low (start_of d) node_room (lightpaths_below w t d) starts h.started k l, below_length w) },
      record { room = λ k l. omega (arith, tallied_low (stop_of d) node_room (lightpaths_below w t d) stops h.stopped k l, below_length w) },
      omega (arith, h.over, over_most (lightpaths_below w t d), below_length w),
    )

    -- all are counted
    pub reach_all : w ≤ most_wavelengths → most_wavelengths ≤ w → Reached t d most_wavelengths starts stops last
    reach_all below above = let e : w ≡ most_wavelengths = omega arith in rw e at h

-- of a table that meets the rules, at the place p of a wavelength
module _ (t : RingTable) (meets : meets_rules t ≡ true) (d : Direction) (w : ℕ) (i : w < most_wavelengths) (p : ℕ) (e : p ≡ place_of w d) where
  -- what it holds has counts
  pub ends_inside : All Inside (held (at t.channels p))
  ends_inside =
      let n = few_nodes t meets in
      all_map _ _ (λ c o. (omega (arith, o.source_high), omega (arith, o.dest_high))) (held (at t.channels p))
      (place_on t.nodes t.channels (table_joined t meets) p (rw e (place_inside w d i)))

  -- and is counted
  pub reach_next : (starts stops : List ℕ) (last : ℕ) → Reached t.channels d w starts stops last → (starts' stops' : List ℕ) (last' : ℕ)
      → starts' ≡ counted (start_of d) (held (at t.channels p)) starts → stops' ≡ counted (stop_of d) (held (at t.channels p)) stops
      → last' ≡ last + over_last d (held (at t.channels p)) → Reached t.channels d (w + 1) starts' stops' last'
  unfolding lightpaths_below
  reach_next starts stops last h starts' stops' last' f g k =
      let cs : List Circuit = held (at t.channels (place_of w d)) in
      let l : All Inside cs = rw e at ends_inside in
      record {
        started = rw (add-one, f, e) (tallied_more (start_of d) (lightpaths_below w t.channels d) cs starts h.started (all_map _ _ (start_inside d) cs l));
        stopped = rw (add-one, g, e) (tallied_more (stop_of d) (lightpaths_below w t.channels d) cs stops h.stopped (all_map _ _ (stop_inside d) cs l));
        over = rw (add-one, k, h.over, e) (omega (arith, weigh_append (λ c. bit (ltb (stop_of d c) (start_of d c))) (lightpaths_below w t.channels d) cs));
      }
