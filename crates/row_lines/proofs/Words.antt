-- The lines of an answer, from their words with the numbers put in. Assumes nothing.
use Prim.Native.Nat.{ℕ, ◌-◌, ◌*◌, ◌^◌, ◌≤◌, ◌<◌}
use mathlib.Core.Path.{◌≡◌, refl}
use mathlib.Core.Bool.{Bool, true, false}
use mathlib.Core.List.{List, [], ◌∷◌}
use native.Mathlib.Omega.{arith}
use lib.ListN.{length, take, drop}
use mir.Syntax.{w64}
use mir.Val.{Fits}
use borrow.Author.Tests.{not-true, not-false}
use Rattle.limits.specs.Limits.{most_ports}
use Rattle.lightpath.specs.Circuit.{on_ring}
use Rattle.channels.specs.Channels.{Channels}
use Rattle.channels.specs.declared.Standing.{Standing}
use Rattle.refusals.specs.Refusal.{number_of}
use Rattle.refusals.specs.declared.Refusal.TheVariants.{OffRing}
use Rattle.rules.proofs.Rules.{rules_hold}
use Rattle.entries.specs.Entry.{entry_of}
use Rattle.entries.proofs.Words.{entry_place}
use Rattle.roster.specs.Roster.{entries_in}
use Rattle.roster.specs.Held.{Holds}
use Rattle.rows.specs.Row.{row_in}
use Rattle.rows.specs.declared.Row.{Row}
use Rattle.rows.proofs.Held.{sends_most, held_room_lem, held_order, held_keyed, keys_long, rests_same, held_sends, held_row}
use Rattle.buffer.specs.Put.{Printed}
use Rattle.buffer.proofs.Put.{put_put}
use Rattle.text.specs.Bytes.{bytes}
use Rattle.print.specs.Answers.{piece}
use Rattle.print.specs.Filled.{filled, filled_room}
use Rattle.row_lines.specs.declared.Listed.{Listed}
use Rattle.row_lines.specs.declared.Listed.TheVariants.{From, To}
use Rattle.row_lines.specs.Lines.{sent_line, received_line, entry_line, entry_lines, first_line, row_text, from_text, first_room, entry_room, entry_lines_room, from_room}

-- the line of an entry
module _ (key rest : ℕ) (m : Standing) (e : m ≡ entry_of key rest) where
  pub place_small : m.place < 2 ^ 32
  place_small = rw e (omega (arith, entry_place key rest))

  module _ (way : Listed) (l l' : List ℕ) (at k : ℕ) where
    pub received_line_lem : way ≡ To → Printed entry_room l at (filled (bytes "circuit # from # place #\n") m.circuit.number m.circuit.destination m.place 0) l' k
        → Printed entry_room l at (entry_line way (entry_of key rest)) l' k
    unfolding filled piece received_line
    received_line_lem is p = rw (is, ← e) p

    pub sent_line_lem : way ≡ From
        → Printed (filled_room (bytes "circuit # to # place #\n")) l at (filled (bytes "circuit # to # place #\n") m.circuit.number m.circuit.destination m.place 0) l' k
        → Printed entry_room l at (entry_line way (entry_of key rest)) l' k
    unfolding filled piece sent_line
    sent_line_lem is p = record { put = rw (is, ← e) p.put; short = omega (arith, p.short) }

pub ruleset entry_words = (place_small, received_line_lem, sent_line_lem)

-- the first line
module _ (way : Listed) (node count : ℕ) (l l' : List ℕ) (at k : ℕ) where
  pub first_to : way ≡ To → Printed (filled_room (bytes "to # circuits #\n")) l at (filled (bytes "to # circuits #\n") node count 0 0) l' k
      → Printed first_room l at (first_line way node count) l' k
  unfolding filled piece first_line
  first_to is p = record { put = rw is p.put; short = omega (arith, p.short) }

  pub first_from : way ≡ From → Printed first_room l at (filled (bytes "from # circuits #\n") node count 0 0) l' k → Printed first_room l at (first_line way node count) l' k
  unfolding filled piece first_line
  first_from is p = rw is p

pub ruleset first_words = (first_to, first_from)

-- there are as many entries as keys
entries_long : (keys rests : List ℕ) → length rests ≡ length keys → length (entries_in keys rests) ≡ length keys
entries_long [] rests h = refl
entries_long (k ∷ keys) [] h = absurd (omega arith)
entries_long (k ∷ keys) (r ∷ rests) h = omega (arith, entries_long keys rests (omega arith))

-- the first line and those of the entries
pub row_put : (way : Listed) (node : ℕ) (keys rests : List ℕ) (l l1 l2 : List ℕ) (at i j : ℕ) → length rests ≡ length keys
    → Printed first_room l at (first_line way node (length keys)) l1 i → Printed entry_lines_room l1 i (entry_lines way (entries_in keys rests)) l2 j
    → Printed from_room l at (row_text way node (entries_in keys rests)) l2 j
row_put way node keys rests l l1 l2 at i j same p q =
    record { put = rw (entries_long keys rests same) (put_put p.put q.put); short = omega (arith, p.short, q.short) }

-- a node off the ring
pub from_refused : (N : ℕ) (t : Channels) (node : ℕ) (on : Bool) (l l' : List ℕ) (at e : ℕ) → on ≡ on_ring N node → on ≡ false
    → Printed (filled_room (bytes "from refused #\n")) l at (filled (bytes "from refused #\n") (number_of OffRing) 0 0 0) l' e
    → Printed from_room l at (from_text N t node) l' e
unfolding filled piece from_text
from_refused N t node on l l' at e is off p = record { put = rw (← is, off) p.put; short = omega (arith, p.short) }

-- a node of the ring, and its row as a part of the keys and of the rests
module _ (N : ℕ) (ks : List ℕ) (t : Channels) (keys rests : List ℕ) (count : ℕ) (h : Holds N ks t keys rests count) (node : ℕ) (r : Row)
    (e : r ≡ row_in (take count keys) node) where
  -- the start in bytes
  pub row_scaled : Fits w64 (r.start * 8)
  row_scaled = record { fits = omega (arith, held_order N ks t keys rests count h node r e, held_keyed N ks t keys rests count h node r e, held_room_lem N ks t keys rests count h) }

  module _ (on : Bool) (is : on ≡ on_ring N node) (there : on ≡ true) where
    -- at most as many as the node has ports
    pub keys_few : length (take (r.end - r.start) (drop r.start keys)) ≤ most_ports
    keys_few = omega (arith, keys_long N ks t keys rests count h node r e, held_sends N ks t keys rests count h node r e, sends_most N ks t (rules_hold N ks t h.rules) node (rw is at there))

    -- so the answer is that of its entries
    pub from_row : (l l' : List ℕ) (at k : ℕ) → Printed from_room l at (row_text From node (entries_in (take (r.end - r.start) (drop r.start keys)) (take (r.end - r.start) (drop r.start rests)))) l' k
        → Printed from_room l at (from_text N t node) l' k
    unfolding from_text
    from_row l l' at k p = rw (← is, there) (rw (held_row N ks t keys rests count h node r e) at p)

pub ruleset from = (from_refused, row_scaled, rests_same, keys_few, from_row, not-true, not-false)
